use Rattle.std.proofs.Common.{◌≡◌, ◌++◌, drop}
use Rattle.icu_rule_meaning.specs.TailoredCases.{cased_elements, with_cases}
use Rattle.icu_rule_steps.specs.symbolic_mappings.inner.TakenCases.{case_bits_left}
use Rattle.icu_rule_steps.proofs.symbolic_mappings.string_cases.cased_elements.Given as goal

-- the elements so far and those to come are the cased ones
abbrev pub invariant-loop-element : goal.invariant-loop-element
invariant-loop-element l = l.cased.items ++ with_cases (case_bits_left l.left) (drop l.element-index l.elements) ≡ cased_elements l.fn.of_string l.fn.elements
