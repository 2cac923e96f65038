-- What is searched for, and in which text.
use Rattle.std.specs.Prelude.{ℕ, Bool, true, List, Option, Some, None, length, slice_index}
use Rattle.icu_search_places.specs.indexed_text.IndexedTexts.{indexed_chars, indexed_offsets}
use Rattle.icu_search_places.specs.indexed_text.OffsetSets.{has_offset}
use Rattle.icu_search_places.specs.Searches.{Search, is_match}
use Rattle.icu_search.specs.declared.allowed_offsets.AllowedOffsets.{AllowedOffsets}
use Rattle.icu_search.specs.declared.searched_text.SearchedText.{SearchedText}
use Rattle.icu_search.specs.Searchers.{search_of}

-- the characters of the text
abbrev pub text_searched : SearchedText → List ℕ
text_searched t = indexed_chars t.text

-- at which unit each begins, and where the text ends
abbrev pub offsets_searched : SearchedText → List ℕ
offsets_searched t = indexed_offsets t.text

-- a unit is allowed: each is, or it is one of those that are given
abbrev pub allows : Option AllowedOffsets → ℕ → Bool
allows None unit = true
allows (Some a) unit = has_offset a.set.items unit

-- what is searched for, between which places
abbrev pub searched_in : SearchedText → Search
searched_in t = record (search_of t.searcher.now) { allowed = λ k. allows t.allowed (slice_index (offsets_searched t) k) }

-- which of the text's parts match
abbrev pub matches_in : SearchedText → ℕ → ℕ → Bool
matches_in t = is_match (searched_in t) (text_searched t)

-- how many characters it has
abbrev pub char_len_in : SearchedText → ℕ
char_len_in t = length (text_searched t)
