use Rattle.std.proofs.Common.{◌≡◌, ◌+◌, ◌≤◌, [], false, length}
use Rattle.icu_search_places.specs.place_reader.PlaceReaders.{CanPass, HasPassed, chars_left, places_reading}
use Rattle.icu_order_texts.specs.TextOrder.{reading_by}
use Rattle.icu_search.specs.SearchedTexts.{char_len_in, matches_in, searched_in, text_searched}
use Rattle.icu_search.proofs.PartWalks.{WalkedAlong, WalkedTo}
use Rattle.icu_search.proofs.searched_text.SearchedText.walk.Given as goal

-- no part up to the offset that it has come to is a match
abbrev pub invariant-places : goal.invariant-places
invariant-places g l = record {
  can : CanPass g.I.Iterator.can_next g.I.Iterator.remaining l.places;
  ordered : l.start ≤ l.stop;
  within : l.stop + length (chars_left l.places) ≤ char_len_in l.self;
  reading : places_reading l.places ≡ reading_by (searched_in l.self).collation;
  walked : HasPassed g.I.Iterator.next_gives l.fn.places [] → matches_in l.self l.start l.start ≡ false
      → WalkedTo (searched_in l.self) (text_searched l.self) l.start g.I.Iterator.next_gives l.places l.stop;
  along : HasPassed g.I.Iterator.next_gives l.fn.places [] → matches_in l.self l.start l.start ≡ false
      → WalkedAlong (searched_in l.self) (text_searched l.self) l.start l.levels l.stop;
}

abbrev pub decreases-places : goal.decreases-places
decreases-places g l = length (chars_left l.places)
