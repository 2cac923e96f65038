use Rattle.std.proofs.Common.{◌-◌, map}
use Rattle.std.specs.Prelude.{filter}
use Rattle.std.specs.List.{range_with_len}
use Rattle.icu_rule_meaning.specs.Rules.{characters_of, is_scalar, lone_relation}
use Rattle.icu_rule_steps.specs.SymbolicTailorings.{kept_mappings, root_in, state_in}
use Rattle.icu_rule_steps.proofs.RuleLoopLemmas.{IsReadTo}
use Rattle.icu_rule_steps.proofs.TouchedRuleLemmas.{IsTouchedBy}
use Rattle.icu_rule_steps.proofs.symbolic_tailoring.SymbolicTailoring.relate_range.Given as goal

abbrev pub invariant-loop-code : goal.invariant-loop-code
invariant-loop-code g l = record {
  read :
      IsReadTo (root_in g.R.RootWeights.root g.R.RootMappings.mappings_of l.root)
      (state_in g.R.RootMappings.mappings_of l.initial.self) (map (lone_relation l.strength) (characters_of l.fn.range))
      (state_in g.R.RootMappings.mappings_of l.self)
      (map (lone_relation l.strength) (filter is_scalar (range_with_len l.code (l.code-end - l.code))));
  touched :
      IsTouchedBy (kept_mappings l.initial.self) (map (lone_relation l.strength) (characters_of l.fn.range)) (kept_mappings l.self)
      (map (lone_relation l.strength) (filter is_scalar (range_with_len l.code (l.code-end - l.code))));
}
