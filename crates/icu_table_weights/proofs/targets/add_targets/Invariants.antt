use Rattle.std.proofs.Common.{option_map}
use Rattle.icu_table_provider.specs.StoredTables.{reordering_of}
use Rattle.icu_table_weights.specs.WeightSets.{weights_of_set}
use Rattle.icu_table_weights.specs.inner.Targets.{IsBefore, AreMet}
use Rattle.icu_table_weights.proofs.targets.add_targets.Given as goal

-- the targets of the weights with the lead bytes so far are met
abbrev pub invariant-loop-lead : goal.invariant-loop-lead
invariant-loop-lead l = AreMet (option_map reordering_of l.reordering) (weights_of_set l.targets) (IsBefore (weights_of_set l.set) l.lead)
