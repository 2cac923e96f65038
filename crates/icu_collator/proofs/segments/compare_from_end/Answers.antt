-- From the ends, the pair that was read decides where no later one does.
use Rattle.std.proofs.Common.{◌≡◌, ◌∷◌, ◌∙◌, ap, sym, length, reverse, arith}
use Rattle.std.specs.Ordering.{ordering_then, nat_cmp}
use Rattle.icu_order_levels.specs.ListOrder.{list_order}
use Rattle.icu_collator.specs.inner.SegmentsLeft.{this_segment}
use Rattle.icu_collator.proofs.SegmentLemmas.{first_pair_last}
use Rattle.icu_collator.proofs.segments.compare_from_end.Goals as goal

pub pairs-preserved : goal.pairs-preserved
pairs-preserved g c =
    let one = c.in-Some-Some.one in
    let other = c.in-Some-Some.other in
    let left_rest = this_segment g.L.HandledSource.handled_left c.next_in_segment.new.self in
    let right_rest = this_segment g.R.HandledSource.handled_left c.next_in_segment-in-pairs.new.self in
    let left : this_segment g.L.HandledSource.handled_left c.pairs.left ≡ one ∷ left_rest = c.in-Some-Some.ensures.weight in
    let right : this_segment g.R.HandledSource.handled_left c.pairs.right ≡ other ∷ right_rest = c.in-Some-Some.ensures'.weight in
    let same : length left_rest ≡ length right_rest = omega (arith, ap length left, ap length right, c.pairs.invariant.same) in
    let ordered : c.then-order.result ≡ ordering_then (nat_cmp one other) c.pairs.order = cc in
    let whole : ordering_then (list_order (reverse (this_segment g.L.HandledSource.handled_left c.pairs.left)) (reverse (this_segment g.R.HandledSource.handled_left c.pairs.right))) c.pairs.order
    ≡ ordering_then (list_order (reverse left_rest) (reverse right_rest)) (ordering_then (nat_cmp one other) c.pairs.order) =
    ap (λ xs. ordering_then (list_order (reverse xs) (reverse (this_segment g.R.HandledSource.handled_left c.pairs.right))) c.pairs.order) left
    ∙ ap (λ ys. ordering_then (list_order (reverse (one ∷ left_rest)) (reverse ys)) c.pairs.order) right
    ∙ first_pair_last one other left_rest right_rest c.pairs.order same in
    record {
      same = same;
      order = ap (ordering_then (list_order (reverse left_rest) (reverse right_rest))) ordered ∙ sym whole ∙ c.pairs.invariant.order;
      left_later = c.next_in_segment.ensures.later ∙ c.pairs.invariant.left_later;
      right_later = c.next_in_segment-in-pairs.ensures.later ∙ c.pairs.invariant.right_later;
    }
