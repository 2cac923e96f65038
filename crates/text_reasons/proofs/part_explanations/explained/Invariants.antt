-- The lines of what was passed, and then those of what is left, are all.
use Rattle.std.proofs.Common.{◌≡◌, ◌+◌, ◌≤◌, [], length}
use Rattle.icu_search_places.specs.place_reader.PlaceReaders.{CanPass, HasPassed, chars_left, places_reading}
use Rattle.text_reasons.proofs.LineLemmas.{LinesPassed}
use Rattle.text_reasons.proofs.part_explanations.explained.Given as goal

abbrev pub invariant-characters : goal.invariant-characters
invariant-characters g l = record {
  can : CanPass g.I.Iterator.can_next g.I.Iterator.remaining l.places;
  reading : places_reading l.places ≡ places_reading l.fn.places;
  short : l.passed + length (chars_left l.places) ≤ length l.text;
  lines : HasPassed g.I.Iterator.next_gives l.fn.places []
      → LinesPassed g.I.Iterator.next_gives (places_reading l.fn.places) l.text l.places l.start l.given l.passed l.output.items;
}

abbrev pub decreases-characters : goal.decreases-characters
decreases-characters g l = length (chars_left l.places)
