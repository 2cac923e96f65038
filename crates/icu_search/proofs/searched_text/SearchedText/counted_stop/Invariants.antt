use Rattle.std.proofs.Common.{◌≡◌, false, true}
use Rattle.icu_order_texts.specs.TextOrder.{reading_by}
use Rattle.icu_search_places.specs.SearchPlaces.{is_place}
use Rattle.icu_search.specs.SearchedTexts.{matches_in, searched_in, text_searched}
use Rattle.icu_search.proofs.CountedWalks.{CountedTo}
use Rattle.icu_search.proofs.searched_text.SearchedText.counted_stop.Given as goal

-- so many weights were met up to the character that comes, and no part up to there is a match
abbrev pub invariant-loop-at : goal.invariant-loop-at
invariant-loop-at l =
    is_place (reading_by (searched_in l.self).collation) (text_searched l.self) l.start ≡ true → (searched_in l.self).allowed l.start ≡ true → matches_in l.self l.start l.start ≡ false
    → CountedTo (searched_in l.self) (text_searched l.self) l.start l.at l.met
