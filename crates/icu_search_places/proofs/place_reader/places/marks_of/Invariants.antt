use Rattle.std.proofs.Common.{◌≡◌, [], length}
use Rattle.icu_search_places.specs.place_reader.PlaceReaders.{CanPass, HasPassed, chars_left, places_reading}
use Rattle.icu_search_places.proofs.place_reader.PlaceMarkLemmas.{MarksPassed}
use Rattle.icu_search_places.proofs.place_reader.places.marks_of.Given as goal

-- what was passed has its marks
abbrev pub invariant-offsets : goal.invariant-offsets
invariant-offsets g l = record {
  can : CanPass g.I.Iterator.can_next g.I.Iterator.remaining l.places;
  reading : places_reading l.places ≡ places_reading l.fn.places;
  marks : HasPassed g.I.Iterator.next_gives l.fn.places [] → MarksPassed g.I.Iterator.next_gives (places_reading l.fn.places) (chars_left l.fn.places) l.places l.marks.items;
}

abbrev pub decreases-offsets : goal.decreases-offsets
decreases-offsets g l = length (chars_left l.places)
