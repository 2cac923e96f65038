use Rattle.std.proofs.Common.{◌+◌, ◌≤◌, length}
use Rattle.icu_element_reading.specs.inner.Iterating.{CanRead, chars_in_source}
use Rattle.icu_element_matches.specs.Texts.{still_unread}
use Rattle.icu_element_reading.specs.inner.ReadsAhead.{ReadsMore}
use Rattle.icu_element_reading.proofs.reader.ahead.read_starter.Given as goal

abbrev pub invariant-loop-c : goal.invariant-loop-c
invariant-loop-c g l = record {
  can : CanRead g.I.Iterator.can_next g.I.Iterator.remaining l.source;
  inside : l.from ≤ length (still_unread l.text);
  reads : ReadsMore g.I.Iterator.next_gives l.fn.source (still_unread l.fn.text) l.source (still_unread l.text);
  size : chars_in_source g.I.Iterator.remaining l.source + length (still_unread l.text) ≤ chars_in_source g.I.Iterator.remaining l.fn.source + length (still_unread l.fn.text);
}

abbrev pub decreases-loop-c : goal.decreases-loop-c
decreases-loop-c g l = chars_in_source g.I.Iterator.remaining l.source
