-- The matches of several patterns together: of those that overlap the one that begins first counts, or of those that
-- begin together the longest, as grep has it.
use Rattle.std.specs.Prelude.{Bool, List, [], ◌∷◌, ◌&&◌, ◌||◌, ◌==◌, if◌then◌else◌, nat_le, nat_lt}
use Rattle.icu_search_places.specs.LeastMatches.{Span}

-- a match begins before another, or where it begins and isn't shorter
abbrev pub comes_first : Span → Span → Bool
comes_first m n = nat_lt m.start n.start || (m.start == n.start && nat_le n.stop m.stop)

-- matches overlap: they begin together, or each begins before the other ends
abbrev pub overlap : Span → Span → Bool
overlap m n = m.start == n.start || (nat_lt m.start n.stop && nat_lt n.start m.stop)

-- a match and what follows it, together with others; what is left behind it is joined to the others by a rest
abbrev pub matches_joined_behind : Span → (List Span → List Span) → List Span → List Span
matches_joined_behind m rest [] = m ∷ rest []
matches_joined_behind m rest (n ∷ ns) =
    if comes_first m n
    then (if overlap m n then matches_joined_behind m rest ns else m ∷ rest (n ∷ ns))
    else (if overlap m n then rest (n ∷ ns) else n ∷ matches_joined_behind m rest ns)

-- matches from left to right that stand apart, of two such lists
abbrev pub matches_joined : List Span → List Span → List Span
matches_joined [] ns = ns
matches_joined (m ∷ ms) ns = matches_joined_behind m (matches_joined ms) ns
