-- Of the matches of a pattern in a text: the least ones, and of these the ones that are found, from left to right and
-- apart (UTS #10, "Searching and Matching"). Which parts of the text match is given.
use Rattle.std.specs.Prelude.{ℕ, zero, suc, ◌+◌, ◌-◌, ◌<◌, ◌≤◌, ◌≡◌, Bool, true, false, nat_le, List, [], ◌∷◌, Option, Some, None, if◌then◌else◌}

-- a part of a text: where it begins, and where it ends, in characters
pub record Span : Type 0 where
  pub start : ℕ
  pub stop : ℕ

-- the part with these ends
abbrev pub span : ℕ → ℕ → Span
span start stop = record { start = start; stop = stop }

-- the first match from a start that ends at an offset or at one of the n after it
unfoldable pub shortest_from : (ℕ → ℕ → Bool) → ℕ → ℕ → ℕ → Option Span
shortest_from matches start stop zero = if matches start stop then Some (span start stop) else None
shortest_from matches start stop (suc n) =
    if matches start stop then Some (span start stop) else shortest_from matches start (stop + 1) n

-- A match before the least ones that begin after it: it is least unless one of those ends where it does or before. The
-- first of them ends first.
unfoldable pub narrowed : Option Span → List Span → List Span
narrowed None later = later
narrowed (Some m) [] = m ∷ []
narrowed (Some m) (l ∷ later) = if nat_le l.stop m.stop then l ∷ later else m ∷ l ∷ later

-- the least matches that begin at an offset or after it, where the text ends n characters after that
unfoldable pub least_from : (ℕ → ℕ → Bool) → ℕ → ℕ → List Span
least_from matches start zero = narrowed (shortest_from matches start start zero) []
least_from matches start (suc n) =
    narrowed (shortest_from matches start start (suc n)) (least_from matches (start + 1) n)

-- the first of these, and then each time the first that begins where the last one taken ends, or after that
unfoldable pub apart_from : ℕ → List Span → List Span
apart_from offset [] = []
apart_from offset (m ∷ later) = if nat_le offset m.start then m ∷ apart_from m.stop later else apart_from offset later

-- the least matches of a text with n characters
abbrev pub least_matches : (ℕ → ℕ → Bool) → ℕ → List Span
least_matches matches n = least_from matches 0 n

-- the matches that are found in it
abbrev pub found_matches : (ℕ → ℕ → Bool) → ℕ → List Span
found_matches matches n = apart_from 0 (least_matches matches n)

-- ---- ends, one by one

-- a match begins later than at a start, and ends at an offset
pub record EndsLaterMatch (matches : ℕ → ℕ → Bool) (start stop : ℕ) : Type 0 where
  pub begin : ℕ
  pub later : start < begin
  pub ordered : begin ≤ stop
  pub is_match : matches begin stop ≡ true

-- Where the first match from a start ends, of those that end at an offset or before. None is told where there is none,
-- and may be told where each of them holds a match that begins later, so that none is least.
abbrev pub TellsLeastStop : (ℕ → ℕ → Bool) → ℕ → ℕ → Option ℕ → Type 0
TellsLeastStop matches start last (Some stop) = (stop ≤ last) × (shortest_from matches start start (last - start) ≡ Some (span start stop))
TellsLeastStop matches start last None = (stop : ℕ) → start ≤ stop → stop ≤ last → matches start stop ≡ true → EndsLaterMatch matches start stop

-- no match begins behind the start of a part and ends within it
abbrev pub HoldsNoOther : (ℕ → ℕ → Bool) → Span → Type 0
HoldsNoOther matches m = (k stop : ℕ) → m.start < k → k ≤ stop → stop ≤ m.stop → matches k stop ≡ false

-- ---- what they are

-- one part holds another, or is the same
pub record HoldsSpan (outer inner : Span) : Type 0 where
  pub start : outer.start ≤ inner.start
  pub stop : inner.stop ≤ outer.stop

-- one part begins before another and ends before it
pub record RisesTo (m n : Span) : Type 0 where
  pub start : m.start < n.start
  pub stop : m.stop < n.stop

-- one part begins before another, and ends where that begins or before
pub record StandsApart (m n : Span) : Type 0 where
  pub start : m.start < n.start
  pub apart : m.stop ≤ n.start

-- one part begins before another, and ends behind the other's beginning
pub record ReachesInto (m n : Span) : Type 0 where
  pub start : m.start < n.start
  pub stop : n.start < m.stop
