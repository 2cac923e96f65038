use Rattle.std.proofs.Common.{◌≡◌, List, []}
use Rattle.icu_table_entries.specs.Elements.{Element}
use Rattle.icu_element_reading.specs.inner.Iterating.{CanRead}
use Rattle.icu_element_reading.specs.CollationElements.{HasSource}
use Rattle.icu_element_reading.specs.inner.ReadyElements.{ready_elements}
use Rattle.icu_element_reading.specs.inner.Streams.{chars_ahead}
use Rattle.icu_element_reading.proofs.collation_elements.CollationElements.read_on.Given as goal

-- nothing is lost, and none stands ready
abbrev pub invariant-steps : goal.invariant-steps
invariant-steps g l = record {
  can : CanRead g.I.Iterator.can_next g.I.Iterator.remaining l.self.source;
  none : ready_elements l.self.reader ≡ [];
  gives : (es : List Element) → HasSource g.I.Iterator.next_gives l.fn.self es → HasSource g.I.Iterator.next_gives l.self es;
  progress : l.self.progress ≡ l.fn.self.progress;
}

abbrev pub decreases-steps : goal.decreases-steps
decreases-steps g l = chars_ahead g.I.Iterator.remaining l.self.source l.self.reader.position
