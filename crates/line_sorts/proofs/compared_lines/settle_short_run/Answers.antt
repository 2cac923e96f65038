-- The closure keeps the order, which is total.
use Rattle.std.proofs.Common.{◌≡◌, refl, ◌∙◌, ap}
use Rattle.std.specs.Ordering.{is_lt}
use Rattle.std.proofs.lemmas.Fn.{answers_by}
use Rattle.std.proofs.lemmas.Result.{on_ok_weaker}
use Rattle.line_sorts.proofs.ComparedLineLemmas.{compared, compared_run, compared_weak}
use Rattle.line_sorts.specs.KeyBuffers.{view_by}
use Rattle.line_sorts.specs.ShownLines.{shown_lines}
use Rattle.line_sorts.proofs.compared_lines.settle_short_run.Goals as goal

pub returns-clause-settles : goal.returns-clause-settles
returns-clause-settles g c =
    let key = g.C.LineComparer.key_of in
    let comparer = c.args.comparer.now in
    let keyed = c.args.keyed.now in
    let o = c.args.order in
    let v = view_by (key comparer) (shown_lines keyed.lines.now) in
    let tells =
    answers_by _ _ (λ f. (f.0.now ≡ comparer) × (f.1.now ≡ keyed) × (f.2.now ≡ o))
    (λ f a r f' called same. (
      ap is_lt
          (called.met.1
          ∙ (ap (λ x. compared (view_by (key x) (shown_lines f.1.now.lines.now)) f.2.now a.0.now a.1.0.now) same.0
          ∙ (ap (λ k. compared (view_by (key comparer) (shown_lines k.lines.now)) f.2.now a.0.now a.1.0.now) same.1
          ∙ ap (λ p. compared v p a.0.now a.1.0.now) same.2))),
      (ap (λ b. b.now) called.met.0.0 ∙ same.0, ap (λ b. b.now) called.met.0.1 ∙ same.1, ap (λ b. b.now) called.met.0.2 ∙ same.2),
    ))
    _ (refl, refl, refl) in
    on_ok_weaker c.sort_by.result (λ sorts.
    compared_run v o c.args.run.now c.sort_by.new.self c.sort_by.ensures.permutation
    (sorts (λ one other. is_lt (compared v o one other)) (compared_weak v o) tells)
    (c.sort_by.ensures.stable (λ one other. is_lt (compared v o one other)) (compared_weak v o) tells))
    c.sort_by.ensures.sorted
