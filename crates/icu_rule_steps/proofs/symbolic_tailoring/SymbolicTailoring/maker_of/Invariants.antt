use Rattle.std.proofs.Common.{drop}
use Rattle.icu_rule_steps.specs.SymbolicTailorings.{root_in, state_in}
use Rattle.icu_rule_steps.proofs.WeightMakerLemmas.{IsSearchedTo}
use Rattle.icu_rule_steps.proofs.symbolic_tailoring.SymbolicTailoring.maker_of.Given as goal

abbrev pub invariant-loop-placed : goal.invariant-loop-placed
invariant-loop-placed g l =
    IsSearchedTo (root_in g.R.RootWeights.root g.R.RootMappings.mappings_of l.root) l.weight l.placed-items
    (state_in g.R.RootMappings.mappings_of l.tailoring) (drop l.placed-index l.placed-items)
