use Rattle.std.proofs.Common.{◌≡◌, length, drop}
use Rattle.icu_collator.specs.inner.SegmentsLeft.{this_segment, next_segments}
use Rattle.icu_collator.proofs.segments.TwoReaders.pass_rest.Given as goal

-- what the reader that is behind has passed is what the other has passed
abbrev pub invariant-weights : goal.invariant-weights
invariant-weights g l = record {
  passed : drop (length (this_segment g.S.HandledSource.handled_left l.self.ahead)) (this_segment g.S.HandledSource.handled_left l.self.behind)
      ≡ drop (length (this_segment g.S.HandledSource.handled_left l.fn.self.ahead)) (this_segment g.S.HandledSource.handled_left l.fn.self.behind);
  ahead : next_segments g.S.HandledSource.handled_left l.self.ahead ≡ next_segments g.S.HandledSource.handled_left l.fn.self.ahead;
  later : next_segments g.S.HandledSource.handled_left l.self.behind ≡ next_segments g.S.HandledSource.handled_left l.fn.self.behind;
}

abbrev pub decreases-weights : goal.decreases-weights
decreases-weights g l = length (this_segment g.S.HandledSource.handled_left l.self.ahead)
