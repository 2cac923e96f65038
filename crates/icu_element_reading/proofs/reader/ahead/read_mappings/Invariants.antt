use Rattle.std.proofs.Common.{◌+◌, ◌≤◌, length}
use Rattle.icu_element_reading.specs.inner.Iterating.{CanRead, chars_in_source}
use Rattle.icu_table_data.specs.StoredData.{found_context}
use Rattle.icu_element_matches.specs.MatchesAhead.{IsDecidedFront}
use Rattle.icu_element_matches.specs.Texts.{still_unread}
use Rattle.icu_element_reading.specs.inner.ReadsAhead.{ReadsMore}
use Rattle.icu_element_reading.proofs.reader.ahead.read_mappings.Given as goal

abbrev pub invariant-mappings : goal.invariant-mappings
invariant-mappings g l = record {
  can : CanRead g.I.Iterator.can_next g.I.Iterator.remaining l.source;
  reads : ReadsMore g.I.Iterator.next_gives l.fn.source (still_unread l.fn.text) l.source (still_unread l.text);
  size : chars_in_source g.I.Iterator.remaining l.source + length (still_unread l.text) ≤ chars_in_source g.I.Iterator.remaining l.fn.source + length (still_unread l.fn.text);
  front : IsDecidedFront (found_context l.context).mappings (still_unread l.text) l.front.items;
}

abbrev pub decreases-mappings : goal.decreases-mappings
decreases-mappings g l = chars_in_source g.I.Iterator.remaining l.source
