use Rattle.std.proofs.Common.{◌≡◌, length, reverse}
use Rattle.std.specs.Ordering.{ordering_then}
use Rattle.icu_order_levels.specs.ListOrder.{list_order}
use Rattle.icu_collator.specs.inner.SegmentsLeft.{this_segment, next_segments}
use Rattle.icu_collator.proofs.segments.compare_from_end.Given as goal

-- what is left, and then the order of what was compared, is the order of the whole
abbrev pub invariant-pairs : goal.invariant-pairs
invariant-pairs g l = record {
  same : length (this_segment g.L.HandledSource.handled_left l.left) ≡ length (this_segment g.R.HandledSource.handled_left l.right);
  order :
      ordering_then (list_order (reverse (this_segment g.L.HandledSource.handled_left l.left)) (reverse (this_segment g.R.HandledSource.handled_left l.right))) l.order
      ≡ ordering_then (list_order (reverse (this_segment g.L.HandledSource.handled_left l.fn.left)) (reverse (this_segment g.R.HandledSource.handled_left l.fn.right))) l.fn.otherwise;
  left_later : next_segments g.L.HandledSource.handled_left l.left ≡ next_segments g.L.HandledSource.handled_left l.fn.left;
  right_later : next_segments g.R.HandledSource.handled_left l.right ≡ next_segments g.R.HandledSource.handled_left l.fn.right;
}

abbrev pub decreases-pairs : goal.decreases-pairs
decreases-pairs g l = length (this_segment g.L.HandledSource.handled_left l.left)
