-- Elements while rules are read, when tailored weights have no numbers yet (UTS #35 part 5, "Collation Tailorings").
use Rattle.std.specs.Prelude.{ℕ, zero, suc, Bool, true, false, ◌||◌, ◌&&◌, ◌==◌, ◌+◌, ◌-◌, ◌/◌, ◌%◌, ◌^◌, bit_and, if◌then◌else◌, List, [], ◌∷◌, ◌++◌, length, map}
use Rattle.icu_table_entries.specs.Elements.{Element, common, tertiary_mask}
use Rattle.icu_rule_meaning.specs.declared.symbolic.SymbolicWeight.{SymbolicWeight}
use Rattle.icu_rule_meaning.specs.declared.symbolic.SymbolicWeight.TheVariants.{Rooted, Tailored}
use Rattle.icu_rule_meaning.specs.declared.symbolic.SymbolicElement.{SymbolicElement}

-- two weights are the same
abbrev pub is_same_weight : SymbolicWeight → SymbolicWeight → Bool
is_same_weight (Rooted v) (Rooted w) = v == w
is_same_weight (Tailored i) (Tailored j) = i == j
is_same_weight _ _ = false

-- two lists of weights are the same
abbrev pub are_same_weights : List SymbolicWeight → List SymbolicWeight → Bool
are_same_weights [] [] = true
are_same_weights (v ∷ vs) (w ∷ ws) = is_same_weight v w && are_same_weights vs ws
are_same_weights _ _ = false

-- the weight is tailored
abbrev pub has_tailored_weight : SymbolicWeight → Bool
has_tailored_weight (Rooted w) = false
has_tailored_weight (Tailored k) = true

-- the last weight is 0
abbrev pub ends_with_zero : List SymbolicWeight → Bool
ends_with_zero [] = false
ends_with_zero (w ∷ []) = is_same_weight w (Rooted 0)
ends_with_zero (w ∷ v ∷ ws) = ends_with_zero (v ∷ ws)

-- The common weight below the weights of the levels before: 0 below 0, and at the quaternary level (UTS #10,
-- "Collation Weights, Elements, and Keys").
abbrev pub common_below : List SymbolicWeight → SymbolicWeight
common_below above = if length above == 3 || ends_with_zero above then Rooted 0 else Rooted common

-- weights with common weights on so many levels below
abbrev pub with_common : ℕ → List SymbolicWeight → List SymbolicWeight
with_common zero above = above
with_common (suc levels) above = with_common levels (above ++ common_below above ∷ [])

-- weights with common weights on all levels below
abbrev pub to_all_levels : List SymbolicWeight → List SymbolicWeight
to_all_levels above = with_common (4 - length above) above

-- the element of these weights and common ones below them
abbrev pub element_with : List SymbolicWeight → ℕ → SymbolicElement
element_with above strength = record { weights = to_all_levels above; strength = strength; case_bits = 0 }

-- the tertiary weight of an element, without case bits
abbrev pub tertiary_of : Element → ℕ
tertiary_of e = bit_and e.lower tertiary_mask

-- the quaternary weight of an element
abbrev pub quaternary_of : Element → ℕ
quaternary_of e = e.lower / 2 ^ 6 % 2 ^ 2

-- the first level at which one of the weights isn't 0, from this level on; 5 where there is none
abbrev pub first_level : ℕ → List ℕ → ℕ
first_level level [] = 5
first_level level (w ∷ ws) = if w == 0 then first_level (level + 1) ws else level

-- the weights of an element, from the primary one on
abbrev pub weights_of : Element → List ℕ
weights_of e = e.primary ∷ e.secondary ∷ tertiary_of e ∷ quaternary_of e ∷ []

-- an element of the root
abbrev pub of_root : Element → SymbolicElement
of_root e = record {
  weights = map Rooted (weights_of e);
  strength = first_level 1 (weights_of e);
  case_bits = e.lower / 2 ^ 14;
}

-- the element that counts at no level
abbrev pub ignorable : SymbolicElement
ignorable = element_with (Rooted 0 ∷ []) 5
