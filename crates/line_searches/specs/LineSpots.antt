-- Where lines and matches of an input are.
use Rattle.std.specs.Prelude.{ℕ, ◌+◌, ◌-◌, ◌^◌, min, List, [], ◌∷◌, length}
use Rattle.icu_search_places.specs.LeastMatches.{Span}
use Rattle.line_searches.specs.declared.search_request.LineSpot.{LineSpot}

-- a number, or the greatest that there is
abbrev pub up_to_greatest : ℕ → ℕ
up_to_greatest n = min n (2 ^ 64 - 1)

-- where the line after another is: an end is between them
abbrev pub spot_after : LineSpot → List ℕ → LineSpot
spot_after spot line = record { number = up_to_greatest (spot.number + 1); offset = up_to_greatest (up_to_greatest (spot.offset + length line) + 1) }

-- where the line after some lines is
abbrev pub spot_after_lines : LineSpot → List (List ℕ) → LineSpot
spot_after_lines spot [] = spot
spot_after_lines spot (line ∷ lines) = spot_after_lines (spot_after spot line) lines

-- where a match of a line is, by the line as it decodes
abbrev pub spot_of_match : LineSpot → Span → LineSpot
spot_of_match spot m = record { number = spot.number; offset = up_to_greatest (spot.offset + m.start) }
