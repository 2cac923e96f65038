-- The part is the one that is found from what is left on.
use Rattle.std.proofs.Common.{◌≡◌, ◌+◌, ◌≤◌, [], length}
use Rattle.icu_search_places.specs.place_reader.PlaceReaders.{CanPass, HasPassed, chars_left, places_reading}
use Rattle.text_reasons.proofs.BearingPartLemmas.{PartsPassed}
use Rattle.text_reasons.proofs.bearing_part.part_read.Given as goal

abbrev pub invariant-characters : goal.invariant-characters
invariant-characters g l = record {
  can : CanPass g.I.Iterator.can_next g.I.Iterator.remaining l.places;
  reading : places_reading l.places ≡ places_reading l.fn.places;
  short : l.passed + length (chars_left l.places) ≤ length l.text;
  part : HasPassed g.I.Iterator.next_gives l.fn.places []
      → PartsPassed g.I.Iterator.next_gives (places_reading l.fn.places) l.text l.count l.places l.start l.passed;
}

abbrev pub decreases-characters : goal.decreases-characters
decreases-characters g l = length (chars_left l.places)
