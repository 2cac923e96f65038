-- The closure keeps the order, which is total.
use Rattle.std.proofs.Common.{◌≡◌, refl, ◌∙◌, ap}
use Rattle.std.specs.Ordering.{is_lt}
use Rattle.std.proofs.lemmas.Fn.{answers_by}
use Rattle.std.proofs.lemmas.List.Sorted.{ranks_by}
use Rattle.std.proofs.lemmas.Result.{on_ok_weaker}
use Rattle.line_sorts.proofs.KeyedPlaceLemmas.{keyed_places_total}
use Rattle.line_sorts.specs.ShownLines.{shown_lines}
use Rattle.line_sorts.specs.inner.KeyedPlaces.{keyed_places_order}
use Rattle.line_sorts.proofs.keyed_runs.sort_keyed.Goals as goal

pub returns-clause-sorted : goal.returns-clause-sorted
returns-clause-sorted c =
    let lines = shown_lines c.args.keyed.now.lines.now in
    on_ok_weaker c.sort_by.result (λ sorts. sorts (λ one other. is_lt (keyed_places_order lines c.args.order one other))
    (ranks_by (keyed_places_total lines c.args.order) (λ place. place))
    (answers_by _ _ (λ f. (f.0.now ≡ c.args.keyed.now) × (f.1.now ≡ c.args.order))
    (λ f a r f' called same. (
      ap is_lt
          (called.met.1
          ∙ (ap (λ k. keyed_places_order (shown_lines k.lines.now) f.1.now a.0.now a.1.0.now) same.0
          ∙ ap (λ o. keyed_places_order (shown_lines c.args.keyed.now.lines.now) o a.0.now a.1.0.now) same.1)),
      (ap (λ b. b.now) called.met.0.0 ∙ same.0, ap (λ b. b.now) called.met.0.1 ∙ same.1),
    ))
    _ (refl, refl)))
    c.sort_by.ensures.sorted

pub returns-clause-stable : goal.returns-clause-stable
returns-clause-stable c =
    let lines = shown_lines c.args.keyed.now.lines.now in
    c.sort_by.ensures.stable (λ one other. is_lt (keyed_places_order lines c.args.order one other))
    (ranks_by (keyed_places_total lines c.args.order) (λ place. place))
    (answers_by _ _ (λ f. (f.0.now ≡ c.args.keyed.now) × (f.1.now ≡ c.args.order))
    (λ f a r f' called same. (
      ap is_lt
          (called.met.1
          ∙ (ap (λ k. keyed_places_order (shown_lines k.lines.now) f.1.now a.0.now a.1.0.now) same.0
          ∙ ap (λ o. keyed_places_order (shown_lines c.args.keyed.now.lines.now) o a.0.now a.1.0.now) same.1)),
      (ap (λ b. b.now) called.met.0.0 ∙ same.0, ap (λ b. b.now) called.met.0.1 ∙ same.1),
    ))
    _ (refl, refl))
