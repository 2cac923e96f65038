-- The closure for each direction keeps the order, which is total.
use Rattle.std.proofs.Common.{◌∙◌, ap, sym}
use Rattle.std.specs.Ordering.{is_lt}
use Rattle.std.proofs.lemmas.Fn.{answers_by}
use Rattle.std.proofs.lemmas.List.Sorted.{ranks_by}
use Rattle.std.proofs.lemmas.Result.{on_ok_weaker}
use Rattle.line_sorts.specs.inner.PlaceOrders.{front_order}
use Rattle.line_sorts.proofs.FrontOrderLemmas.{front_total}
use Rattle.line_sorts.proofs.line_places.sort_by_fronts.Goals as goal

pub returns-in-Ascending-clause-sorted : goal.returns-in-Ascending-clause-sorted
returns-in-Ascending-clause-sorted c =
    on_ok_weaker c.sort_by.result (λ sorts. sorts (λ one other. is_lt (front_order c.args.direction one other))
    (ranks_by (front_total c.args.direction) (λ place. place))
    (answers_by _ _ (λ f. Unit {0})
    (λ f a r f' called same. (
      ap is_lt (called.met ∙ ap (λ d. front_order d a.0.now a.1.0.now) (sym c.in-Ascending.is)),
      tt,
    ))
    _ tt))
    c.sort_by.ensures.sorted

pub returns-in-Ascending-clause-stable : goal.returns-in-Ascending-clause-stable
returns-in-Ascending-clause-stable c =
    c.sort_by.ensures.stable (λ one other. is_lt (front_order c.args.direction one other))
    (ranks_by (front_total c.args.direction) (λ place. place))
    (answers_by _ _ (λ f. Unit {0})
    (λ f a r f' called same. (
      ap is_lt (called.met ∙ ap (λ d. front_order d a.0.now a.1.0.now) (sym c.in-Ascending.is)),
      tt,
    ))
    _ tt)

pub returns-in-Descending-clause-sorted : goal.returns-in-Descending-clause-sorted
returns-in-Descending-clause-sorted c =
    on_ok_weaker c.sort_by-in-Descending.result (λ sorts. sorts (λ one other. is_lt (front_order c.args.direction one other))
    (ranks_by (front_total c.args.direction) (λ place. place))
    (answers_by _ _ (λ f. Unit {0})
    (λ f a r f' called same. (
      ap is_lt (called.met ∙ ap (λ d. front_order d a.0.now a.1.0.now) (sym c.in-Descending.is)),
      tt,
    ))
    _ tt))
    c.sort_by-in-Descending.ensures.sorted

pub returns-in-Descending-clause-stable : goal.returns-in-Descending-clause-stable
returns-in-Descending-clause-stable c =
    c.sort_by-in-Descending.ensures.stable (λ one other. is_lt (front_order c.args.direction one other))
    (ranks_by (front_total c.args.direction) (λ place. place))
    (answers_by _ _ (λ f. Unit {0})
    (λ f a r f' called same. (
      ap is_lt (called.met ∙ ap (λ d. front_order d a.0.now a.1.0.now) (sym c.in-Descending.is)),
      tt,
    ))
    _ tt)
