-- The weights of ideographs, range by range.
use Rattle.std.proofs.Common.{◌≡◌, ℕ, ◌≤◌, Bool, true, false, List, ◌∷◌, Option, Some, None, refl, sym, ap, ◌∙◌, arith, if◌then◌else◌}
use Rattle.std.specs.Prelude.{◌&&◌, nat_le, IfSome}
use Rattle.std.proofs.lemmas.Bool.Decides.{nat_tests}
use Rattle.icu_cldr_root.proofs.CountedDigitLemmas.{within}
use Rattle.icu_cldr_root.specs.RangeWeights.{primary_among, ideograph_weight_in}
use Rattle.icu_cldr_root.specs.Ideographs.{primary_in, HasNoIdeographs}
use Rattle.icu_cldr_root.specs.declared.ideograph_weights.IdeographWeights.{IdeographWeights}
use Rattle.icu_cldr_root.specs.declared.ideograph_weights.WeightedRange.{WeightedRange}

-- the first range has the character
pub primary_here : (ranges rest : List WeightedRange) (w : WeightedRange) (c : ℕ) → ranges ≡ w ∷ rest → w.range.first ≤ c → c ≤ w.range.last
    → primary_among ranges c ≡ Some (ideograph_weight_in w c)
unfolding primary_among
primary_here ranges rest w c is h l =
    ap (λ rs. primary_among rs c) is
    ∙ ap (λ b. if b then Some (ideograph_weight_in w c) else primary_among rest c) (within w.range.first w.range.last c h l)

outside : (a b c : ℕ) (t : Bool) → (nat_le a c && nat_le c b) ≡ t → (a ≤ c → c ≤ b → ⊥) → t ≡ false
outside a b c false e never = refl
outside a b c true e never = absurd (never (grind (arith, nat_tests)) (grind (arith, nat_tests)))

-- it hasn't
pub primary_past : (ranges rest : List WeightedRange) (w : WeightedRange) (c : ℕ) → ranges ≡ w ∷ rest → (w.range.first ≤ c → c ≤ w.range.last → ⊥)
    → primary_among ranges c ≡ primary_among rest c
unfolding primary_among
primary_past ranges rest w c is never =
    ap (λ rs. primary_among rs c) is
    ∙ ap (λ b. if b then Some (ideograph_weight_in w c) else primary_among rest c)
    (outside w.range.first w.range.last c (nat_le w.range.first c && nat_le c w.range.last) refl never)

-- there are none
pub no_primary : (ideographs : IdeographWeights) (c : ℕ) → HasNoIdeographs ideographs → primary_in ideographs c ≡ None
unfolding primary_among
no_primary ideographs c none = ap (λ rs. primary_among rs c) none

-- a weight that was found
pub found_weight : (r x : Option ℕ) (v : ℕ) → IfSome r (λ p. p ≡ v) → x ≡ Some v → IfSome r (λ p. x ≡ Some p)
found_weight None x v h is = tt
found_weight (Some p) x v h is = is ∙ ap Some (sym h)
