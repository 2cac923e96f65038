-- Which of several ranges has a code first.
use Rattle.std.proofs.Common.{◌≡◌, ℕ, ◌+◌, ◌<◌, ◌≤◌, Bool, true, false, List, [], ◌∷◌, Option, Some, None, refl, sym, ap, subst, ◌∙◌, drop, arith}
use Rattle.std.specs.Prelude.{IfSome, nat_lt, slice_get, slice_index_or}
use Rattle.std.proofs.lemmas.Bool.Decides.{nat_tests}
use Rattle.std.proofs.lemmas.Option.{get_or_from_slice_get, slice_get_past}
use Rattle.icu_cldr_root.specs.RangeWeights.{ideograph_weight_in, primary_among}
use Rattle.icu_cldr_root.specs.inner.RangePlaces.{Finds}
use Rattle.icu_cldr_root.specs.declared.ideograph_weights.WeightedRange.{WeightedRange}
use Rattle.icu_cldr_root.proofs.IdeographLemmas.{primary_here, primary_past}

-- a code whose place is a number has the weight by the range with this number, which is the first of the ranges from
-- an index on that has it
abbrev pub FindsBehind : List ℕ → List WeightedRange → ℕ → Type 0
FindsBehind places ranges index = (c n : ℕ) → slice_index_or places c 0 ≡ n + 1
    → (w : WeightedRange) → slice_get ranges n ≡ Some w → primary_among (drop index ranges) c ≡ Some (ideograph_weight_in w c)

-- no place is a number
pub finds_none : (places : List ℕ) (ranges : List WeightedRange) (index : ℕ) → ((k : ℕ) → slice_index_or places k 0 ≡ 0) → FindsBehind places ranges index
finds_none places ranges index zero c n h w there = let no : slice_index_or places c 0 ≡ 0 = zero c in absurd (omega arith)

-- there are no places
pub finds_nothing : (places : List ℕ) (ranges : List WeightedRange) → places ≡ [] → Finds places ranges
finds_nothing places ranges none c n h w there =
    let past : slice_get {X = ℕ} [] c ≡ None = slice_get_past {X = ℕ} [] c (omega arith) in
    let here : slice_get {X = ℕ} [] c ≡ Some (n + 1) = subst (λ (ps : List ℕ). slice_get ps c ≡ Some (n + 1)) none h in
    cc

-- the ranges from the first one on
pub finds_all : (places : List ℕ) (ranges : List WeightedRange) (index : ℕ) → index ≡ 0 → FindsBehind places ranges index → Finds places ranges
finds_all places ranges index is finds c n h w there =
    subst (λ i. primary_among (drop i ranges) c ≡ Some (ideograph_weight_in w c)) is (finds c n (get_or_from_slice_get places c (n + 1) 0 h) w there)

same_range : (o : Option WeightedRange) (v w : WeightedRange) → o ≡ Some v → o ≡ Some w → v ≡ w
same_range o v w h l = cc

module _ (old new : List ℕ) (ranges : List WeightedRange) (v : WeightedRange) (index next place : ℕ)
    (at : slice_get ranges index ≡ Some v) (steps : drop index ranges ≡ v ∷ drop next ranges)
    (number : (n : ℕ) → place ≡ n + 1 → n ≡ index)
    (set : (k d : ℕ) → v.range.first ≤ k → k ≤ v.range.last → slice_index_or new k d ≡ place)
    (below : (k d : ℕ) → k < v.range.first → slice_index_or new k d ≡ slice_index_or old k d)
    (above : (k d : ℕ) → v.range.last < k → slice_index_or new k d ≡ slice_index_or old k d)
    (before : FindsBehind old ranges next) where
  inside : (c n : ℕ) → v.range.first ≤ c → c ≤ v.range.last → slice_index_or new c 0 ≡ n + 1
      → (w : WeightedRange) → slice_get ranges n ≡ Some w → primary_among (drop index ranges) c ≡ Some (ideograph_weight_in w c)
  inside c n low high h w there =
      let here : n ≡ index = number n (sym (set c 0 low high) ∙ h) in
      let same : v ≡ w = same_range (slice_get ranges index) v w at (ap (slice_get ranges) (sym here) ∙ there) in
      primary_here (drop index ranges) (drop next ranges) v c steps low high ∙ ap (λ (x : WeightedRange). Some (ideograph_weight_in x c)) same

  outside : (c n : ℕ) → (v.range.first ≤ c → c ≤ v.range.last → ⊥) → slice_index_or new c 0 ≡ slice_index_or old c 0 → slice_index_or new c 0 ≡ n + 1
      → (w : WeightedRange) → slice_get ranges n ≡ Some w → primary_among (drop index ranges) c ≡ Some (ideograph_weight_in w c)
  outside c n never same h w there =
      primary_past (drop index ranges) (drop next ranges) v c steps never ∙ before c n (sym same ∙ h) w there

  -- one range more
  pub finds_more : FindsBehind new ranges index
  finds_more c n h w there = by_low (nat_lt c v.range.first) refl where
    by_high : (b : Bool) → nat_lt v.range.last c ≡ b → v.range.first ≤ c → primary_among (drop index ranges) c ≡ Some (ideograph_weight_in w c)
    by_high true t low =
        let far : v.range.last < c = grind (arith, nat_tests) in
        outside c n (λ l u. omega arith) (above c 0 far) h w there
    by_high false t low =
        let near : c ≤ v.range.last = grind (arith, nat_tests) in
        inside c n low near h w there

    by_low : (b : Bool) → nat_lt c v.range.first ≡ b → primary_among (drop index ranges) c ≡ Some (ideograph_weight_in w c)
    by_low true t =
        let far : c < v.range.first = grind (arith, nat_tests) in
        outside c n (λ l u. omega arith) (below c 0 far) h w there
    by_low false t = by_high (nat_lt v.range.last c) refl (grind (arith, nat_tests))

-- a weight that was found
pub found_at : (r : Option ℕ) (places : List ℕ) (ranges : List WeightedRange) (c n : ℕ) (w : WeightedRange) → Finds places ranges
    → slice_get places c ≡ Some (n + 1) → slice_get ranges n ≡ Some w → IfSome r (λ p. p ≡ ideograph_weight_in w c)
    → IfSome r (λ p. primary_among ranges c ≡ Some p)
found_at None places ranges c n w finds at there is = tt
found_at (Some p) places ranges c n w finds at there is = finds c n at w there ∙ ap Some (sym is)
