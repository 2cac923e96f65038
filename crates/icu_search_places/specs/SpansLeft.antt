-- What an iterator of found matches still gives.
use Rattle.std.specs.Prelude.{ℕ, Bool, List}
use Rattle.icu_search_places.specs.declared.found_spans.FoundSpans.{FoundSpans}
use Rattle.icu_search_places.specs.LeastMatches.{Span}
use Rattle.icu_search_places.specs.Selections.{found_from}

-- the matches that are found from its offset on
unfoldable pub spans_left : {M : Type 0} → (M → ℕ → ℕ → Bool) → (M → ℕ) → FoundSpans M → List Span
spans_left matches char_len it = found_from (matches it.ends.now) (char_len it.ends.now) it.offset
