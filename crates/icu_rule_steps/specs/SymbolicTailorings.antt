-- What rules have said, as it is kept.
use Rattle.std.specs.Prelude.{ℕ, List, map, reverse}
use Rattle.icu_rule_parser.specs.declared.statement.RuleSetting.{RuleSetting}
use Rattle.icu_rule_meaning.specs.TailoredRoots.{RootMapping, Root}
use Rattle.icu_rule_meaning.specs.Steps.{TailoringState}
use Rattle.icu_rule_meaning.specs.weight_tree.RuleStates.{state_with}
use Rattle.icu_rule_steps.specs.symbolic_mappings.KeptMappings.{mappings_in}
use Rattle.icu_rule_steps.specs.declared.symbolic_mappings.kept_mappings.Mappings.{Mappings}
use Rattle.icu_rule_steps.specs.declared.symbolic_tailoring.SymbolicTailoring.{SymbolicTailoring}

-- the root of which weights and mappings are asked
abbrev pub root_in : {R : Type 0} → (R → Root) → (R → ℕ → List RootMapping) → R → Root
root_in root_of mappings_of r = record (root_of r) { mappings = mappings_of r }

-- the settings, the last one first
abbrev pub settings_in : {R : Type 0} → SymbolicTailoring R → List RuleSetting
settings_in t = reverse (map (λ s. s.now) t.settings.items)

-- the state
abbrev pub state_in : {R : Type 0} → (R → ℕ → List RootMapping) → SymbolicTailoring R → TailoringState
state_in mappings_of t = state_with (mappings_in mappings_of t.mappings) (settings_in t) t.rule

-- the mappings, as they are kept
abbrev pub kept_mappings : {R : Type 0} → SymbolicTailoring R → Mappings R
kept_mappings t = t.mappings
