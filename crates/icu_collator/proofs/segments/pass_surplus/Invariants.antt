use Rattle.std.proofs.Common.{◌≡◌, ◌+◌, length}
use Rattle.icu_collator.specs.inner.SegmentsLeft.{this_segment, next_segments}
use Rattle.icu_collator.proofs.segments.pass_surplus.Given as goal

-- the readers that are ahead have passed as many weights, and the others none
abbrev pub invariant-pairs : goal.invariant-pairs
invariant-pairs g l = record {
  as_many : length (this_segment g.L.HandledSource.handled_left l.left.ahead) + length (this_segment g.R.HandledSource.handled_left l.fn.right.behind)
      ≡ length (this_segment g.R.HandledSource.handled_left l.right.ahead) + length (this_segment g.L.HandledSource.handled_left l.fn.left.behind);
  left_ahead : next_segments g.L.HandledSource.handled_left l.left.ahead ≡ next_segments g.L.HandledSource.handled_left l.fn.left.behind;
  right_ahead : next_segments g.R.HandledSource.handled_left l.right.ahead ≡ next_segments g.R.HandledSource.handled_left l.fn.right.behind;
  left : l.left.behind ≡ l.fn.left.behind;
  right : l.right.behind ≡ l.fn.right.behind;
}

abbrev pub decreases-pairs : goal.decreases-pairs
decreases-pairs g l = length (this_segment g.L.HandledSource.handled_left l.left.ahead)
