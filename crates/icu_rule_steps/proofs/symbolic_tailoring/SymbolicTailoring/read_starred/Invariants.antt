use Rattle.std.proofs.Common.{drop, map}
use Rattle.std.specs.List.{flat_map}
use Rattle.icu_rule_meaning.specs.Rules.{characters_of, lone_relation, starred_rules}
use Rattle.icu_rule_steps.specs.SymbolicTailorings.{kept_mappings, root_in, state_in}
use Rattle.icu_rule_steps.proofs.RuleLoopLemmas.{IsReadTo}
use Rattle.icu_rule_steps.proofs.TouchedRuleLemmas.{IsTouchedBy}
use Rattle.icu_rule_steps.proofs.symbolic_tailoring.SymbolicTailoring.read_starred.Given as goal

abbrev pub invariant-loop-range : goal.invariant-loop-range
invariant-loop-range g l = record {
  read :
      IsReadTo (root_in g.R.RootWeights.root g.R.RootMappings.mappings_of l.root)
      (state_in g.R.RootMappings.mappings_of l.initial.self) (starred_rules l.said)
      (state_in g.R.RootMappings.mappings_of l.self)
      (map (lone_relation l.said.strength) (flat_map characters_of (drop l.range-index l.range-items)));
  touched :
      IsTouchedBy (kept_mappings l.initial.self) (starred_rules l.said) (kept_mappings l.self)
      (map (lone_relation l.said.strength) (flat_map characters_of (drop l.range-index l.range-items)));
}
