-- Case bits of elements, one after another.
use Rattle.std.specs.Prelude.{ℕ, List, [], ◌∷◌}
use Rattle.icu_rule_meaning.specs.TailoredCases.{cases_for}
use Rattle.icu_rule_steps.specs.declared.symbolic_mappings.string_cases.CasesLeft.{CasesLeft}

-- all but the first
abbrev pub later_case_bits : List ℕ → List ℕ
later_case_bits [] = []
later_case_bits (c ∷ cases) = cases

-- the case bits of the elements to come
abbrev pub case_bits_left : CasesLeft → List ℕ
case_bits_left c = cases_for c.left c.cases.now
