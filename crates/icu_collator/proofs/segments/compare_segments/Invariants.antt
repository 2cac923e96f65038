use Rattle.std.proofs.Common.{◌≡◌, length}
use Rattle.icu_order_levels.specs.ListOrder.{segments_order}
use Rattle.icu_collator.specs.inner.SegmentsLeft.{next_segments, reversed_segments, AtOnePlace}
use Rattle.icu_collator.proofs.segments.compare_segments.Given as goal

-- what is left orders as the whole
abbrev pub invariant-segments : goal.invariant-segments
invariant-segments g l = record {
  left : AtOnePlace g.L.HandledSource.handled_left l.left;
  right : AtOnePlace g.R.HandledSource.handled_left l.right;
  order : segments_order (reversed_segments g.L.HandledSource.handled_left l.left) (reversed_segments g.R.HandledSource.handled_left l.right)
      ≡ segments_order (reversed_segments g.L.HandledSource.handled_left l.fn.left) (reversed_segments g.R.HandledSource.handled_left l.fn.right);
}

abbrev pub decreases-segments : goal.decreases-segments
decreases-segments g l = length (next_segments g.L.HandledSource.handled_left l.left.behind)
