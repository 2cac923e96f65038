use Rattle.std.proofs.Common.{◌≡◌, ◌==◌, drop}
use Rattle.std.specs.List.{list_all}
use Rattle.icu_rule_steps.proofs.symbolic_mappings.string_cases.all_are.Given as goal

abbrev pub invariant-loop-case : goal.invariant-loop-case
invariant-loop-case l = list_all (λ d. d == l.wanted) (drop l.case-index l.cases) ≡ list_all (λ d. d == l.wanted) l.cases
