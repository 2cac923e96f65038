-- What a search finds: the parts of a text, between its places, that are equal to the pattern (UTS #10, "Searching and
-- Matching").
use Rattle.std.specs.Prelude.{ℕ, ◌-◌, Bool, ◌&&◌, nat_le, List, length, drop, slice_range}
use Rattle.std.specs.Ordering.{is_eq}
use Rattle.icu_order_texts.specs.weighting.Collations.{Collation}
use Rattle.icu_order_texts.specs.TextOrder.{reading_by, text_order}
use Rattle.icu_search_places.specs.LeastMatches.{Span, least_matches, found_matches}
use Rattle.icu_search_places.specs.SearchPlaces.{is_place}

-- The collation to search by, the pattern to look for, and the offsets that the caller allows a match to begin or end
-- at, as those of grapheme clusters or words. Offsets count characters.
pub record Search : Type 0 where
  pub collation : Collation
  pub pattern : List ℕ
  pub allowed : ℕ → Bool

-- the part is a match: it stands between two places, the second one of the text from the first on, and by itself it is
-- equal to the pattern
abbrev pub is_match : Search → List ℕ → ℕ → ℕ → Bool
is_match s text start stop =
    s.allowed start && s.allowed stop && nat_le start stop
    && is_place (reading_by s.collation) text start
    && is_place (reading_by s.collation) (drop start text) (stop - start)
    && is_eq (text_order s.collation (slice_range text start stop) s.pattern)

-- the least matches of a text: those that hold no other
abbrev pub least : Search → List ℕ → List Span
least s text = least_matches (is_match s text) (length text)

-- the matches that are found in it, from left to right and apart
abbrev pub found : Search → List ℕ → List Span
found s text = found_matches (is_match s text) (length text)
