-- The matches that are found, one after another.
use Rattle.std.specs.Prelude.{ℕ, Bool, List, [], ◌∷◌, Option, Some, None}
use Rattle.icu_search_places.specs.LeastMatches.{Span, apart_from, least_matches}

-- the first of these parts
abbrev pub first_span : List Span → Option Span
first_span [] = None
first_span (m ∷ later) = Some m

-- what is found from an offset on: the first least match that begins there or after it, and so on behind that
abbrev pub found_from : (ℕ → ℕ → Bool) → ℕ → ℕ → List Span
found_from matches n offset = apart_from offset (least_matches matches n)
