-- Elements with numbers (UTS #10, "Collation Weights, Elements, and Keys"; UTS #35 part 5, "Collation Tailorings").
use Rattle.std.specs.Prelude.{ℕ, ◌≡◌, ◌<◌, ◌≤◌, ◌+◌, ◌-◌, ◌*◌, ◌^◌, ◌==◌, ◌&&◌, not, true, Bool, nat_le, List, filter, length, map, bit_and, slice_index_or, All}
use Rattle.icu_table_entries.specs.Elements.{Element, tertiary_mask}
use Rattle.icu_rule_meaning.specs.declared.symbolic.SymbolicElement.{SymbolicElement}
use Rattle.icu_rule_meaning.specs.WeightTrees.{weight_at_level}
use Rattle.icu_rule_meaning.specs.SymbolicElements.{of_root, weights_of}
use Rattle.icu_rule_meaning.specs.SymbolicOrders.{level_numbers}
use Rattle.icu_rule_weights.specs.declared.tailoring_numbers.tailoring_numbers.TailoringNumbers.{TailoringNumbers}
use Rattle.icu_rule_weights.specs.tailoring_numbers.Numberings.{number_of, numbering_of}

-- the number of an element at a level
abbrev pub number_at : TailoringNumbers → ℕ → SymbolicElement → ℕ
number_at t level e = number_of t (weight_at_level level e.weights)

-- The lower half of an element: a tertiary weight leaves bits for the quaternary weight and for the case.
abbrev pub lower_of : TailoringNumbers → SymbolicElement → ℕ
lower_of t e = number_at t 3 e + number_at t 4 e * 0x40 + e.case_bits * 0x4000

-- the element with numbers
abbrev pub numbered_element : TailoringNumbers → SymbolicElement → Element
numbered_element t e = record { primary = number_at t 1 e; secondary = number_at t 2 e; lower = lower_of t e }

-- tertiary weight, quaternary weight and case have their own bits of the lower half
abbrev pub fits_lower : TailoringNumbers → SymbolicElement → Bool
fits_lower t e =
    bit_and (number_at t 3 e) tertiary_mask == number_at t 3 e && nat_le (number_at t 4 e) 3 && nat_le e.case_bits 3

-- no weight of the element is too great for its level
abbrev pub fits_element : TailoringNumbers → SymbolicElement → Bool
fits_element t e = fits_lower t e && nat_le (number_at t 2 e) 0xFFFF

-- elements have four weights, of which the tertiary and the quaternary one have their own bits beside the case
abbrev pub FitsAll : TailoringNumbers → List SymbolicElement → Type 0
FitsAll t es = All (λ (e : SymbolicElement). (length e.weights ≡ 4) × (fits_lower t e ≡ true)) es

-- the weights of elements at a level, without zeros (UTS #10, "Form Sort Keys")
abbrev pub element_numbers : ℕ → List Element → List ℕ
element_numbers level es = filter (λ w. not (w == 0)) (map (λ x. slice_index_or (weights_of x) (level - 1) 0) es)

-- elements with numbers have at each of the four levels the numbers of the symbolic ones
abbrev pub NumberedElementsKeepOrder : Type 0
NumberedElementsKeepOrder = (t : TailoringNumbers) (es : List SymbolicElement) (level : ℕ) → 1 ≤ level → level ≤ 4
    → FitsAll t es → element_numbers level (map (numbered_element t) es) ≡ level_numbers (numbering_of t) level es

-- elements of the root are the same with numbers
abbrev pub RootElementsStay : Type 0
RootElementsStay = (t : TailoringNumbers) (e : Element) → e.lower < 2 ^ 16 → numbered_element t (of_root e) ≡ e
