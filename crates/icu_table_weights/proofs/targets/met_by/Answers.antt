use Rattle.std.proofs.Common.{ap, ◌∙◌, option_map}
use Rattle.icu_table_provider.specs.StoredTables.{reordering_of}
use Rattle.icu_table_weights.specs.WeightSets.{is_three_bytes, weights_of_set}
use Rattle.icu_table_weights.proofs.WeightSetLemmas.{in_fits}
use Rattle.icu_table_weights.proofs.TargetLemmas.{three_kept, apart_by_targets}
use Rattle.icu_table_weights.proofs.targets.met_by.Goals as goal

pub may_meet-requires : goal.may_meet-requires
may_meet-requires c = ap (λ p. is_three_bytes p) c.reorder_by.ensures ∙ three_kept (option_map reordering_of c.args.reordering) c.args.weight ∙ c.requires.other

pub returns-else-may_meet-clause-none : goal.returns-else-may_meet-clause-none
returns-else-may_meet-clause-none c = λ _.
    apart_by_targets (option_map reordering_of c.args.reordering) (weights_of_set c.args.set.now) (weights_of_set c.args.targets.now) (in_fits c.args.set.now) c.requires.met c.args.weight c.reorder_by.result c.reorder_by.ensures
    (c.may_meet.ensures c.if-may_meet.false)
