-- What a character of a text gives by itself.
use Rattle.std.specs.Prelude.{◌≡◌, ℕ, ◌+◌, ◌<◌, true, List, length, slice_index_or, slice_range}
use Rattle.unicode_normalization.specs.Forms.{nfd}
use Rattle.icu_order_texts.specs.weighting.Collations.{Collation}
use Rattle.icu_order_texts.specs.TextOrder.{reading_by, lists_by}
use Rattle.icu_search_places.specs.Searches.{Search}
use Rattle.icu_search.specs.inner.AsciiMarks.{GivesNothing}
use Rattle.icu_search.specs.inner.SearchCuts.{CutsAt, EndsPieceAt}

-- behind a character the text ends, or may be cut, and by itself it has so many primary weights
pub record CountsAlone (c : Collation) (text : List ℕ) (at n : ℕ) : Type 0 where
  pub ends : EndsPieceAt (reading_by c) text (at + 1)
  pub count : n ≡ length (lists_by c (nfd (slice_range text at (at + 1)))).primaries

-- Whatever is searched for, a part up to a character is equal to it exactly if the part with the character is: the part
-- isn't empty, and may end before the character, and the text may be cut there.
pub record AddsNothing (s : Search) (text : List ℕ) (start at : ℕ) : Type 0 where
  pub longer : start < at
  pub allowed : s.allowed at ≡ true
  pub cut : CutsAt (reading_by s.collation) text at
  pub silent : GivesNothing s.collation (slice_index_or text at 0)
