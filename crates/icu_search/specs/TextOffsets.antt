-- At which unit of a text each of its characters begins, and where the text ends: offsets as matches count them.
use Rattle.std.specs.Prelude.{ℕ, true, nat_lt, List, length, map, filter, slice_index}
use Rattle.unicode_segmentation.specs.Grapheme.{graphemes}
use Rattle.unicode_segmentation.specs.Word.{word_bounds}
use Rattle.icu_search_places.specs.indexed_text.UnitOffsets.{offsets_along, latin1_sizes, utf16_sizes, utf8_sizes, str_sizes}
use Rattle.icu_search_places.specs.LeastMatches.{Span, span}

-- of a text in UTF-8 that isn't damaged, by its characters
abbrev pub str_offsets : List ℕ → List ℕ
str_offsets characters = offsets_along 0 (str_sizes characters)

-- of bytes that are read as UTF-8
abbrev pub utf8_offsets : List ℕ → List ℕ
utf8_offsets bytes = offsets_along 0 (utf8_sizes bytes)

-- of units of UTF-16
abbrev pub utf16_offsets : List ℕ → List ℕ
utf16_offsets units = offsets_along 0 (utf16_sizes units)

-- of bytes of Latin-1
abbrev pub latin1_offsets : List ℕ → List ℕ
latin1_offsets bytes = offsets_along 0 (latin1_sizes bytes)

-- the boundaries of extended grapheme clusters (UAX #29, "Grapheme Cluster Boundaries")
abbrev pub grapheme_offsets : List ℕ → List ℕ
grapheme_offsets bytes = offsets_along 0 (map length (graphemes true bytes))

-- the boundaries of words (UAX #29, "Word Boundaries")
abbrev pub word_offsets : List ℕ → List ℕ
word_offsets bytes = offsets_along 0 (map length (word_bounds bytes))

-- a part of a text, by the units at which it begins and ends
abbrev pub match_in_units : List ℕ → Span → Span
match_in_units offsets m = span (slice_index offsets m.start) (slice_index offsets m.stop)

-- so many characters of a text begin before a unit
abbrev pub begin_before : List ℕ → ℕ → ℕ
begin_before offsets unit = length (filter (λ o. nat_lt o unit) offsets)
