-- What least matches and found ones are, whichever parts of a text match.
use Rattle.std.specs.Prelude.{ℕ, ◌≤◌, ◌≡◌, ◌⊎◌, Bool, true, List}
use Rattle.std.specs.List.{AllPairs, Any, Contains}
use Rattle.icu_search_places.specs.LeastMatches.{Span, least_matches, found_matches, HoldsSpan, RisesTo, StandsApart, ReachesInto}

-- a match within these offsets
pub record IsMatchWithin (matches : ℕ → ℕ → Bool) (low high : ℕ) (m : Span) : Type 0 where
  pub is_match : matches m.start m.stop ≡ true
  pub from_low : low ≤ m.start
  pub ordered : m.start ≤ m.stop
  pub to_high : m.stop ≤ high

-- a match that holds no other
pub record IsLeastWithin (matches : ℕ → ℕ → Bool) (low high : ℕ) (m : Span) : Type 0 where
  pub is_match : IsMatchWithin matches low high m
  pub least : (other : Span) → IsMatchWithin matches low high other → HoldsSpan m other → other ≡ m

-- the matches that hold no other, in their order; each match holds one of them
pub record AreLeastWithin (matches : ℕ → ℕ → Bool) (low high : ℕ) (spans : List Span) : Type 0 where
  pub each : (m : Span) → Contains spans m → IsLeastWithin matches low high m
  pub all : (m : Span) → IsLeastWithin matches low high m → Contains spans m
  pub rise : AllPairs RisesTo spans
  pub held : (m : Span) → IsMatchWithin matches low high m → Any (HoldsSpan m) spans

-- some of the least matches, in their order and apart; each other one begins inside of one that is found
pub record AreFound (least found : List Span) : Type 0 where
  pub each : (m : Span) → Contains found m → Contains least m
  pub apart : AllPairs StandsApart found
  pub others : (m : Span) → Contains least m → Contains found m ⊎ Any (λ f. ReachesInto f m) found

-- the list of least matches is that of the matches that hold no other
abbrev pub LeastMatchesHoldNoOther : Type 0
LeastMatchesHoldNoOther = (matches : ℕ → ℕ → Bool) (n : ℕ) → AreLeastWithin matches 0 n (least_matches matches n)

-- those that are found stand apart, and the others meet them
abbrev pub FoundMatchesStandApart : Type 0
FoundMatchesStandApart =
    (matches : ℕ → ℕ → Bool) (n : ℕ) → AreFound (least_matches matches n) (found_matches matches n)
