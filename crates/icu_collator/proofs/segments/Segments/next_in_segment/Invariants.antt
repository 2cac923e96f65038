use Rattle.std.proofs.Common.{◌≡◌, length, false}
use Rattle.icu_collator.specs.inner.SegmentsLeft.{this_segment, next_segments}
use Rattle.icu_collator.proofs.segments.Segments.next_in_segment.Given as goal

abbrev pub invariant-passing : goal.invariant-passing
invariant-passing g l = record {
  segment : this_segment g.S.HandledSource.handled_left l.fn.self ≡ this_segment g.S.HandledSource.handled_left l.self;
  later : next_segments g.S.HandledSource.handled_left l.fn.self ≡ next_segments g.S.HandledSource.handled_left l.self;
  within : l.self.at_separator ≡ false;
}

abbrev pub decreases-passing : goal.decreases-passing
decreases-passing g l = length (g.S.HandledSource.handled_left l.self.source)
