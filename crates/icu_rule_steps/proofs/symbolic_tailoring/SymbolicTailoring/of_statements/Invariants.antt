use Rattle.std.proofs.Common.{drop}
use Rattle.icu_rule_steps.specs.SymbolicTailorings.{kept_mappings, root_in, state_in}
use Rattle.icu_rule_meaning.specs.Rules.{rules_of}
use Rattle.icu_rule_steps.specs.symbolic_mappings.TouchedCharacters.{is_related, suppressed_by}
use Rattle.icu_rule_steps.proofs.RuleLoopLemmas.{IsPlacedTo}
use Rattle.icu_rule_steps.proofs.TouchedRuleLemmas.{IsTouchedTo}
use Rattle.icu_rule_steps.proofs.symbolic_tailoring.SymbolicTailoring.of_statements.Given as goal

abbrev pub invariant-loop-placed : goal.invariant-loop-placed
invariant-loop-placed g l = record {
  read :
      IsPlacedTo (root_in g.R.RootWeights.root g.R.RootMappings.mappings_of l.root) l.statements
      (state_in g.R.RootMappings.mappings_of l.tailoring) (drop l.placed-index l.statements);
  touched :
      IsTouchedTo (is_related (rules_of l.statements)) (suppressed_by (rules_of l.statements)) l.root (kept_mappings l.tailoring)
      (rules_of (drop l.placed-index l.statements));
}
