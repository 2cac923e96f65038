use Rattle.std.proofs.Common.{ℕ, ◌≤◌, List}
use Rattle.icu_element_reading.specs.inner.Iterating.{StillReads, CanRead, chars_in_source, reads_left}
use Rattle.icu_element_reading.proofs.decomposed_source.DecomposedSource.next_held.Given as goal

abbrev pub invariant-reading : goal.invariant-reading
invariant-reading g l = record {
  same : (cs : List ℕ) → StillReads g.I.Iterator.next_gives l.fn.self cs → StillReads g.I.Iterator.next_gives l.self cs;
  can : CanRead g.I.Iterator.can_next g.I.Iterator.remaining l.self;
  size : chars_in_source g.I.Iterator.remaining l.self ≤ chars_in_source g.I.Iterator.remaining l.fn.self;
}

abbrev pub decreases-reading : goal.decreases-reading
decreases-reading g l = reads_left g.I.Iterator.remaining l.self
