use Rattle.std.proofs.Common.{option_map}
use Rattle.icu_table_provider.specs.StoredTables.{reordering_of}
use Rattle.icu_table_weights.specs.WeightSets.{weights_of_set}
use Rattle.icu_table_weights.specs.inner.Targets.{AreMet}
use Rattle.icu_table_weights.proofs.TargetLemmas.{IsDone}
use Rattle.icu_table_weights.proofs.targets.add_targets_of_lead.Given as goal

-- the targets of the weights before those of this lead byte, and of those of it so far, are met
abbrev pub invariant-loop-weight : goal.invariant-loop-weight
invariant-loop-weight l =
    AreMet (option_map reordering_of l.reordering) (weights_of_set l.targets) (IsDone (option_map reordering_of l.reordering) (weights_of_set l.set) l.weight-items l.lead l.weight-index)
