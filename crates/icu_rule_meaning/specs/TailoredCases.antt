-- Case bits of tailored elements (UTS #35 part 5, "Case Parameters").
use Rattle.std.specs.Prelude.{ℕ, zero, suc, Bool, ◌==◌, if◌then◌else◌, List, [], ◌∷◌, map, filter, length}
use Rattle.std.specs.List.{list_all}
use Rattle.icu_rule_meaning.specs.declared.symbolic.SymbolicElement.{SymbolicElement}

-- the element counts at this level first
abbrev pub counts_first_at : ℕ → SymbolicElement → Bool
counts_first_at level e = e.strength == level

-- the elements with a primary weight
abbrev pub primary_elements : List SymbolicElement → List SymbolicElement
primary_elements = filter (counts_first_at 1)

-- the case bits of elements with a primary weight
abbrev pub cases_of : List SymbolicElement → List ℕ
cases_of es = map (λ (e : SymbolicElement). e.case_bits) (primary_elements es)

-- case bits of both kinds
abbrev pub mixed_case : ℕ
mixed_case = 1

-- case bits of upper case
abbrev pub upper_case_bits : ℕ
upper_case_bits = 2

-- what the case bits have in common, or mixed; those of lower case for none
abbrev pub merged_case : List ℕ → ℕ
merged_case [] = 0
merged_case (c ∷ cs) = if list_all (λ d. d == c) cs then c else mixed_case

-- case bits for so many elements: each has its own, and the last one has those of all that are left
unfoldable pub cases_for : ℕ → List ℕ → List ℕ
cases_for zero cases = []
cases_for (suc zero) cases = merged_case cases ∷ []
cases_for (suc (suc n)) [] = 0 ∷ cases_for (suc n) []
cases_for (suc (suc n)) (c ∷ cases) = c ∷ cases_for (suc n) cases

-- the element with these case bits
abbrev pub with_case_bits : SymbolicElement → ℕ → SymbolicElement
with_case_bits e bits = record e { case_bits = bits }

-- The elements with case bits: those with a primary weight in turn. An element that counts at the tertiary level first
-- is of upper case, and others are of lower case.
unfoldable pub with_cases : List ℕ → List SymbolicElement → List SymbolicElement
with_cases cases [] = []
with_cases [] (e ∷ es) =
    with_case_bits e (if counts_first_at 3 e then upper_case_bits else 0) ∷ with_cases [] es
with_cases (c ∷ cases) (e ∷ es) =
    if counts_first_at 1 e then with_case_bits e c ∷ with_cases cases es
    else with_case_bits e (if counts_first_at 3 e then upper_case_bits else 0) ∷ with_cases (c ∷ cases) es

-- the elements with the case of the root's elements of their string
abbrev pub cased_elements : List SymbolicElement → List SymbolicElement → List SymbolicElement
cased_elements of_string es = with_cases (cases_for (length (primary_elements es)) (cases_of of_string)) es
