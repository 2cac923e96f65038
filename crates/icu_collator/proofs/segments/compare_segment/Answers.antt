-- The surplus that was passed over counts only where the rest ties.
use Rattle.std.proofs.Common.{◌-◌, ◌∙◌, ap, sym, length, drop, reverse}
use Rattle.std.specs.Ordering.{ordering_then}
use Rattle.icu_order_levels.specs.ListOrder.{list_order}
use Rattle.icu_collator.specs.inner.SegmentsLeft.{this_segment}
use Rattle.icu_collator.proofs.SegmentLemmas.{surplus}
use Rattle.icu_collator.proofs.segments.compare_segment.Goals as goal

pub returns-clause-order : goal.returns-clause-order
returns-clause-order g c =
    let xs = this_segment g.L.HandledSource.handled_left c.args.left.now.behind in
    let ys = this_segment g.R.HandledSource.handled_left c.args.right.now.behind in
    let ys_left = this_segment g.R.HandledSource.handled_left c.pass_surplus-longer.new.right.behind in
    let longer = c.pass_surplus-longer.result in
    c.compare_from_end.ensures.order
    ∙ ap (λ l. ordering_then (list_order (reverse l) (reverse ys_left)) longer) c.pass_surplus-longer.ensures.left
    ∙ ap (λ l. ordering_then (list_order (reverse (drop (length xs - length ys) xs)) (reverse l)) longer) c.pass_surplus-longer.ensures.right
    ∙ ap (ordering_then (list_order (reverse (drop (length xs - length ys) xs)) (reverse (drop (length ys - length xs) ys)))) c.pass_surplus-longer.ensures.order
    ∙ sym (surplus xs ys)
