-- The matches of a pattern in a text, as C has them.
use Rattle.std.specs.Prelude.{◌≡◌, ℕ, List, Result, Ok, Err, length, map, take}
use Rattle.icu_order_texts.specs.weighting.Collations.{Collation}
use Rattle.icu_search.specs.Searchers.{search_for}
use Rattle.icu_search.specs.TextOffsets.{match_in_units, utf8_offsets}
use Rattle.icu_search_places.specs.LeastMatches.{Span}
use Rattle.icu_search_places.specs.Searches.{found}
use Rattle.icu_text_encodings.specs.DecodedTexts.{utf8_text}
use Rattle.collate_c.specs.declared.collate_match.CollateMatch.{CollateMatch}
use Rattle.collate_c.specs.declared.statuses.Failure.{Failure}
use Rattle.collate_c.specs.declared.statuses.Failure.TheVariants.{NoMemory, TooSmall}

-- a part of a text, by its bytes
abbrev pub as_match : Span → CollateMatch
as_match m = record { start = m.start; end = m.stop }

-- the matches of a pattern that are found in a text in UTF-8 (UTS #10, "Searching and Matching"), by its bytes
abbrev pub matches_by : Collation → List ℕ → List ℕ → List CollateMatch
matches_by collation pattern text =
    map as_match
    (map (match_in_units (utf8_offsets text)) (found (search_for collation (utf8_text pattern)) (utf8_text text)))

-- matches are at the front of room, and `needed` is their number
abbrev pub AreAtFront : List CollateMatch → ℕ → List CollateMatch → Type 0
AreAtFront matches needed out = (needed ≡ length matches) × (take needed out ≡ matches)

-- the first matches fill the room, and `needed` is the number of all
abbrev pub FillRoom : List CollateMatch → ℕ → List CollateMatch → Type 0
FillRoom matches needed out = (needed ≡ length matches) × (out ≡ take (length out) matches)

-- the matches are in the room; or they don't fit, and the first ones are; or memory ran out
abbrev pub WritesMatches : List CollateMatch → Result Unit Failure → ℕ → List CollateMatch → Type 0
WritesMatches matches (Ok v) needed out = AreAtFront matches needed out
WritesMatches matches (Err TooSmall) needed out = FillRoom matches needed out
WritesMatches matches (Err NoMemory) needed out = Unit {0}
WritesMatches matches (Err _) needed out = ⊥
