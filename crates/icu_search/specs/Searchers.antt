-- What is searched for.
use Rattle.std.specs.Prelude.{ℕ, true, List, Option, Some, None, chars, string_bytes, slice_index, if◌then◌else◌}
use Rattle.std.specs.Ordering.{is_eq}
use Rattle.icu_order_texts.specs.TextOrder.{text_order}
use Rattle.icu_order_texts.specs.weighting.Collations.{Collation}
use Rattle.icu_collator.specs.Collators.{collation_borrowed}
use Rattle.icu_search_places.specs.indexed_text.OffsetSets.{has_offset}
use Rattle.icu_search_places.specs.LeastMatches.{Span, span}
use Rattle.icu_search_places.specs.Searches.{Search}
use Rattle.icu_search.specs.TextOffsets.{grapheme_offsets, word_offsets}
use Rattle.icu_search.specs.declared.boundary.Boundary.{Boundary}
use Rattle.icu_search.specs.declared.boundary.Boundary.TheVariants.{Letters, Graphemes, Words}
use Rattle.icu_search.specs.declared.searcher.Searcher.{Searcher}

-- a pattern by a collation, between any places
abbrev pub search_for : Collation → List ℕ → Search
search_for collation pattern = record { collation = collation; pattern = pattern; allowed = λ _. true }

-- what a searcher looks for
abbrev pub search_of : Searcher → Search
search_of s = search_for (collation_borrowed s.collator) (chars (string_bytes s.pattern))

-- the same between places at some units alone, in a text whose characters begin at these
abbrev pub search_within : Search → List ℕ → List ℕ → Search
search_within s offsets set = record s { allowed = λ k. has_offset set (slice_index offsets k) }

-- between the boundaries of a kind, in a text in UTF-8
abbrev pub search_by : Boundary → Search → List ℕ → List ℕ → Search
search_by Letters s offsets bytes = s
search_by Graphemes s offsets bytes = search_within s offsets (grapheme_offsets bytes)
search_by Words s offsets bytes = search_within s offsets (word_offsets bytes)

-- the whole of a text of so many units, if it is equal to the pattern
abbrev pub whole_match : Search → List ℕ → ℕ → Option Span
whole_match s text units = if is_eq (text_order s.collation text s.pattern) then Some (span 0 units) else None
