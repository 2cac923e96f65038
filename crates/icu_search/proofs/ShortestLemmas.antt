-- The shortest match from a start, by the ends that are tried in turn.
use Rattle.std.proofs.Common.{◌≡◌, ℕ, zero, suc, ◌+◌, ◌-◌, ◌<◌, ◌≤◌, Bool, true, false, Some, None, sym, ap, ◌∙◌, arith, inl, inr}
use Rattle.std.proofs.lemmas.Bool.{cases_eq}
use Rattle.icu_search_places.specs.LeastMatches.{span, shortest_from}

-- no match from a start ends at one of these offsets
abbrev pub NoneTo : (ℕ → ℕ → Bool) → ℕ → ℕ → Type 0
NoneTo matches start stop = (s : ℕ) → start ≤ s → s ≤ stop → matches start s ≡ false

-- where none of them ends a match there is none
none_ends : (matches : ℕ → ℕ → Bool) (start low n : ℕ) → ((s : ℕ) → low ≤ s → s ≤ low + n → matches start s ≡ false) → shortest_from matches start low n ≡ None
unfolding shortest_from
none_ends matches start low zero none = rw (none low (omega arith) (omega arith))
none_ends matches start low (suc n) none = rw (none low (omega arith) (omega arith)) (none_ends matches start (low + 1) n (λ s from to. none s (omega (arith, from)) (omega (arith, to))))

pub none_found : (matches : ℕ → ℕ → Bool) (start high : ℕ) → start ≤ high → NoneTo matches start high → shortest_from matches start start (high - start) ≡ None
none_found matches start high ordered none = none_ends matches start start (high - start) (λ s from to. none s from (omega (arith, to, ordered)))

-- the first of them that ends a match gives it
one_ends : (matches : ℕ → ℕ → Bool) (start low n at : ℕ) → low ≤ at → at ≤ low + n → matches start at ≡ true → ((s : ℕ) → low ≤ s → s < at → matches start s ≡ false)
    → shortest_from matches start low n ≡ Some (span start at)
unfolding shortest_from
one_ends matches start low zero at from to is none = let here : low ≡ at = omega (arith, from, to) in let e : matches start low ≡ true = ap (matches start) here ∙ is in rw e (ap (λ s. Some (span start s)) here)
one_ends matches start low (suc n) at from to is none =
    elim (cases_eq low at) [
      | inl here ↦ let e : matches start low ≡ true = ap (matches start) here ∙ is in rw e (ap (λ s. Some (span start s)) here)
      | inr later ↦ rw (none low (omega arith) (omega (arith, later, from))) (one_ends matches start (low + 1) n at (omega (arith, later, from)) (omega (arith, to)) is (λ s after before. none s (omega (arith, after)) before))
    ]

pub one_found : (matches : ℕ → ℕ → Bool) (start high at : ℕ) → start ≤ at → at ≤ high → matches start at ≡ true → ((s : ℕ) → start ≤ s → s < at → matches start s ≡ false)
    → shortest_from matches start start (high - start) ≡ Some (span start at)
one_found matches start high at from to is none = one_ends matches start start (high - start) at from (omega (arith, from, to)) is none

-- one more offset is tried
pub none_more : (matches : ℕ → ℕ → Bool) (start stop : ℕ) → NoneTo matches start stop → matches start (stop + 1) ≡ false → NoneTo matches start (stop + 1)
none_more matches start stop none not = λ s from to. elim (cases_eq s (stop + 1)) as (λ _. matches start s ≡ false) [
  | inl here ↦ ap (matches start) here ∙ not
  | inr other ↦ none s from (omega (arith, to, other))
]

pub none_at_start : (matches : ℕ → ℕ → Bool) (start : ℕ) → matches start start ≡ false → NoneTo matches start start
none_at_start matches start not = λ s from to. let here : start ≡ s = omega (arith, from, to) in ap (matches start) (sym here) ∙ not
