-- Texts that aren't equal to a pattern, since a primary weight behind some others is another one.
use Rattle.std.specs.Prelude.{◌≡◌, ℕ, false, List, ◌++◌, length}
use Rattle.unicode_normalization.specs.Forms.{nfd}
use Rattle.icu_table_entries.specs.Elements.{Element}
use Rattle.icu_element_reading.specs.TextElements.{elements_of}
use Rattle.icu_order_texts.specs.weighting.Forms.{last_variable_by}
use Rattle.icu_order_texts.specs.TextOrder.{reading_by, lists_by}
use Rattle.icu_search_places.specs.Searches.{Search}
use Rattle.icu_search.specs.inner.EqualParts.{equals_pattern}
use Rattle.icu_search.specs.inner.FirstWeights.{counted_primaries}

-- No part of a text is equal to the pattern, if the elements with which the text begins, before those of what is left,
-- have so many primary weights.
abbrev pub DiffersBehind : Search → List ℕ → ℕ → Type 0
DiffersBehind s left index =
    (text part more : List ℕ) (front : List Element)
    → elements_of (reading_by s.collation) (nfd text) ≡ front ++ elements_of (reading_by s.collation) (nfd left)
    → length (counted_primaries (last_variable_by s.collation) front) ≡ index
    → (lists_by s.collation (nfd text)).primaries ≡ (lists_by s.collation (nfd part)).primaries ++ more → equals_pattern s part ≡ false
