-- The match that is held while the least one is looked for.
use Rattle.std.specs.Prelude.{ℕ, ◌≡◌, ◌+◌, ◌<◌, ◌≤◌, Bool, false, nat_le, nat_lt, List, Option, Some, None, if◌then◌else◌}
use Rattle.icu_search_places.specs.LeastMatches.{Span, HoldsNoOther, TellsLeastStop}
use Rattle.icu_search_places.specs.Selections.{found_from}

-- of two matches, the second of which begins later, the one that is least: the later one, unless it ends later
abbrev pub joined_to_held : Option Span → Option Span → Option Span
joined_to_held None next = next
joined_to_held (Some m) None = Some m
joined_to_held (Some m) (Some l) = if nat_le l.stop m.stop then Some l else Some m

-- the match ends before the offset
abbrev pub stops_before : Option Span → ℕ → Bool
stops_before None offset = false
stops_before (Some m) offset = nat_lt m.stop offset

-- The first match from a start, of those that end at an offset or before. None is told where there is none, and may be
-- told where each of them holds a match from a later start.
abbrev pub TellsLeastSpan : (ℕ → ℕ → Bool) → ℕ → ℕ → Option Span → Type 0
TellsLeastSpan matches start last (Some m) = (m.start ≡ start) × TellsLeastStop matches start last (Some m.stop)
TellsLeastSpan matches start last None = TellsLeastStop matches start last None

-- a later match takes the place of the one that is held only if it ends there or before
abbrev pub last_to_try : Option Span → ℕ → ℕ
last_to_try None n = n
last_to_try (Some m) n = if nat_lt m.stop n then m.stop else n

-- where the next match may begin: where the match ends, or behind its start where it is empty
abbrev pub from_behind : Span → ℕ
from_behind m = if nat_lt m.start m.stop then m.stop else m.start + 1

-- what is found behind a match that was given, or from the same offset on where none was
abbrev pub found_behind : (ℕ → ℕ → Bool) → ℕ → ℕ → Option Span → List Span
found_behind matches n offset None = found_from matches n offset
found_behind matches n offset (Some m) = found_from matches n (from_behind m)

-- a match is held that begins at an offset, and holds no other that begins behind that
abbrev pub IsSure : (ℕ → ℕ → Bool) → ℕ → Option Span → Type 0
IsSure matches start None = ⊥
IsSure matches start (Some m) = (m.start ≡ start) × HoldsNoOther matches m

-- no least match begins at an offset, or at one from there on that is below another
abbrev pub PassedTo : (ℕ → ℕ → Bool) → ℕ → ℕ → ℕ → Type 0
PassedTo matches n start next = (k : ℕ) → start ≤ k → k < next → TellsLeastStop matches k n None
