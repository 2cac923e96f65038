-- How matches of a line are shown.
use Rattle.std.specs.Prelude.{ℕ, ◌-◌, Bool, if◌then◌else◌, List, [], ◌∷◌, ◌++◌, codes, drop, take}
use Rattle.icu_search_places.specs.LeastMatches.{Span}

-- what stands from a byte up to another
abbrev pub bytes_between : List ℕ → ℕ → ℕ → List ℕ
bytes_between bytes start stop = take (stop - start) (drop start bytes)

-- what stands before what is in colour, as grep shows matches (ECMA-48, "Select Graphic Rendition")
abbrev pub colour_on : List ℕ
colour_on = 27 ∷ codes "[01;31m" ++ 27 ∷ codes "[K"

-- so numbers
abbrev pub green : List ℕ
green = 27 ∷ codes "[32m" ++ 27 ∷ codes "[K"

-- so what stands behind these
abbrev pub cyan : List ℕ
cyan = 27 ∷ codes "[36m" ++ 27 ∷ codes "[K"

-- what stands behind what is in colour
abbrev pub colour_off : List ℕ
colour_off = 27 ∷ codes "[m" ++ 27 ∷ codes "[K"

-- bytes in a colour, by what begins it
abbrev pub in_colour : List ℕ → List ℕ → List ℕ
in_colour on bytes = on ++ (bytes ++ colour_off)

-- bytes in a colour, if there are colours
abbrev pub painted : Bool → List ℕ → List ℕ → List ℕ
painted has_colours on bytes = if has_colours then in_colour on bytes else bytes

-- a match in colour
abbrev pub coloured : List ℕ → List ℕ
coloured bytes = in_colour colour_on bytes

-- what stands before a match from a byte on, and the match in colour
abbrev pub next_coloured : List ℕ → ℕ → Span → List ℕ
next_coloured line at m = bytes_between line at m.start ++ coloured (bytes_between line m.start m.stop)

-- a line from a byte on, with its matches behind that in colour
abbrev pub coloured_from : List ℕ → ℕ → List Span → List ℕ
coloured_from line at [] = drop at line
coloured_from line at (m ∷ ms) = next_coloured line at m ++ coloured_from line m.stop ms
