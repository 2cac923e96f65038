-- Elements with numbers have the numbers of the symbolic ones.
use Rattle.std.proofs.Common.{◌≡◌, ℕ, zero, suc, ◌-◌, ◌≤◌, true, ◌==◌, ◌&&◌, not, nat_le, List, [], ◌∷◌, length, take, map, filter, get_or, refl, ap, sym, ◌∙◌, arith}
use Rattle.std.specs.Prelude.{bit_and}
use Rattle.std.specs.List.{All}
use Rattle.std.proofs.lemmas.List.Elements.{All-head, All-tail}
use Rattle.std.proofs.lemmas.Bool.{eqb-true, and_parts}
use Rattle.std.proofs.lemmas.Bool.Decides.{nat_tests}
use Rattle.icu_table_entries.specs.Elements.{Element, tertiary_mask}
use Rattle.icu_rule_meaning.specs.declared.symbolic.SymbolicWeight.{SymbolicWeight}
use Rattle.icu_rule_meaning.specs.declared.symbolic.SymbolicWeight.TheVariants.{Rooted}
use Rattle.icu_rule_meaning.specs.declared.symbolic.SymbolicElement.{SymbolicElement}
use Rattle.icu_rule_meaning.specs.SymbolicElements.{weights_of}
use Rattle.icu_rule_meaning.specs.SymbolicOrders.{weights_in, level_numbers}
use Rattle.icu_rule_weights.specs.declared.tailoring_numbers.tailoring_numbers.TailoringNumbers.{TailoringNumbers}
use Rattle.icu_rule_weights.specs.tailoring_numbers.Numberings.{number_of, numbering_of}
use Rattle.icu_rule_weights.specs.tailoring_numbers.NumberedElements.{number_at, lower_of, numbered_element, fits_lower, FitsAll, element_numbers, NumberedElementsKeepOrder, RootElementsStay}
use Rattle.icu_rule_weights.proofs.tailoring_numbers.ElementBits.{whole_half, tertiary_of_half, quaternary_of_half}

-- what an element has at a level
abbrev weight_in : ℕ → Element → ℕ
weight_in level x = get_or (weights_of x) (level - 1) 0

small_from : (n m : ℕ) → nat_le n m ≡ true → n ≤ m
small_from n m e = grind (arith, nat_tests)

-- ---- one element

record Parts (t : TailoringNumbers) (e : SymbolicElement) : Type 0 where
  own : bit_and (number_at t 3 e) tertiary_mask ≡ number_at t 3 e
  few : number_at t 4 e ≤ 3
  case : e.case_bits ≤ 3

parts_from : (t : TailoringNumbers) (e : SymbolicElement) → fits_lower t e ≡ true → Parts t e
parts_from t e half =
    let (some, case) = and_parts (bit_and (number_at t 3 e) tertiary_mask == number_at t 3 e && nat_le (number_at t 4 e) 3) (nat_le e.case_bits 3) half in
    let (own, few) = and_parts (bit_and (number_at t 3 e) tertiary_mask == number_at t 3 e) (nat_le (number_at t 4 e) 3) some in
    record {
      own = eqb-true (bit_and (number_at t 3 e) tertiary_mask) (number_at t 3 e) own;
      few = small_from (number_at t 4 e) 3 few;
      case = small_from e.case_bits 3 case;
    }

module _ (t : TailoringNumbers) (e : SymbolicElement) where
  -- the number of a level is that of the weights up to it
  last_of : (level : ℕ) (ws : List SymbolicWeight) → e.weights ≡ ws → number_of t (get_or ws (level - 1) (Rooted 0)) ≡ numbering_of t (take level ws)
      → number_at t level e ≡ numbering_of t (take level e.weights)
  last_of level ws is same =
      ap (λ vs. number_of t (get_or vs (level - 1) (Rooted 0))) is ∙ (same ∙ sym (ap (λ vs. numbering_of t (take level vs)) is))

  number_is : (level : ℕ) (ws : List SymbolicWeight) → e.weights ≡ ws → length ws ≡ 4 → 1 ≤ level → level ≤ 4
      → number_at t level e ≡ numbering_of t (take level e.weights)
  number_is zero ws is four least most = absurd (omega arith)
  number_is (suc zero) (p ∷ s ∷ u ∷ q ∷ []) is four least most = last_of 1 (p ∷ s ∷ u ∷ q ∷ []) is refl
  number_is (suc (suc zero)) (p ∷ s ∷ u ∷ q ∷ []) is four least most = last_of 2 (p ∷ s ∷ u ∷ q ∷ []) is refl
  number_is (suc (suc (suc zero))) (p ∷ s ∷ u ∷ q ∷ []) is four least most = last_of 3 (p ∷ s ∷ u ∷ q ∷ []) is refl
  number_is (suc (suc (suc (suc zero)))) (p ∷ s ∷ u ∷ q ∷ []) is four least most = last_of 4 (p ∷ s ∷ u ∷ q ∷ []) is refl
  number_is (suc (suc (suc (suc (suc n))))) ws is four least most = absurd (omega arith)
  number_is (suc n) [] is four least most = absurd (omega arith)
  number_is (suc n) (p ∷ []) is four least most = absurd (omega arith)
  number_is (suc n) (p ∷ s ∷ []) is four least most = absurd (omega arith)
  number_is (suc n) (p ∷ s ∷ u ∷ []) is four least most = absurd (omega arith)
  number_is (suc n) (p ∷ s ∷ u ∷ q ∷ v ∷ ws) is four least most = absurd (omega arith)

  -- the element has the numbers at each level
  weight_is : (level : ℕ) → 1 ≤ level → level ≤ 4 → Parts t e → weight_in level (numbered_element t e) ≡ number_at t level e
  weight_is zero least most parts = absurd (omega arith)
  weight_is (suc zero) least most parts = refl
  weight_is (suc (suc zero)) least most parts = refl
  weight_is (suc (suc (suc zero))) least most parts =
      tertiary_of_half (number_at t 3 e) (number_at t 4 e) e.case_bits parts.own parts.few parts.case
  weight_is (suc (suc (suc (suc zero)))) least most parts =
      quaternary_of_half (number_at t 3 e) (number_at t 4 e) e.case_bits parts.own parts.few parts.case
  weight_is (suc (suc (suc (suc (suc n))))) least most parts = absurd (omega arith)

-- ---- elements

fits_first : (t : TailoringNumbers) (e : SymbolicElement) (es : List SymbolicElement) → FitsAll t (e ∷ es)
    → (length e.weights ≡ 4) × (fits_lower t e ≡ true)
fits_first t e es fits = All-head (λ (f : SymbolicElement). (length f.weights ≡ 4) × (fits_lower t f ≡ true)) e es fits

fits_rest : (t : TailoringNumbers) (e : SymbolicElement) (es : List SymbolicElement) → FitsAll t (e ∷ es) → FitsAll t es
fits_rest t e es fits = All-tail (λ (f : SymbolicElement). (length f.weights ≡ 4) × (fits_lower t f ≡ true)) e es fits

all_weights : (t : TailoringNumbers) (es : List SymbolicElement) (level : ℕ) → 1 ≤ level → level ≤ 4 → FitsAll t es
    → map (weight_in level) (map (numbered_element t) es) ≡ map (λ ws. numbering_of t (take level ws)) (weights_in es)
all_weights t [] level least most fits = refl
all_weights t (e ∷ es) level least most fits =
    let (four, fit) = fits_first t e es fits in
    let first : weight_in level (numbered_element t e) ≡ numbering_of t (take level e.weights) =
    weight_is t e level least most (parts_from t e fit) ∙ number_is t e level e.weights refl four least most in
    ap (λ w. w ∷ map (weight_in level) (map (numbered_element t) es)) first
    ∙ ap (λ ws. numbering_of t (take level e.weights) ∷ ws) (all_weights t es level least most (fits_rest t e es fits))

pub keep_order : NumberedElementsKeepOrder
keep_order t es level least most fits = ap (filter (λ w. not (w == 0))) (all_weights t es level least most fits)

pub root_stays : RootElementsStay
root_stays t e small =
    let with_lower : ℕ → Element = λ l. record { primary = e.primary; secondary = e.secondary; lower = l } in
    ap with_lower (whole_half e.lower small)
