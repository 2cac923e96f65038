use Rattle.std.proofs.Common.{option_map}
use Rattle.icu_table_provider.specs.StoredTables.{reordering_of}
use Rattle.icu_table_weights.specs.WeightSets.{weights_of_set}
use Rattle.icu_table_weights.proofs.WeightSetLemmas.{in_fits}
use Rattle.icu_table_weights.proofs.TargetLemmas.{free_by_parts, free_all}
use Rattle.icu_table_weights.proofs.set_overlaps.overlap_by.Goals as goal

pub returns-clause-free : goal.returns-clause-free
returns-clause-free c =
    free_all c.first_among_others.result _ _ _
    (free_by_parts (option_map reordering_of c.args.reordering) (weights_of_set c.args.set.now) (weights_of_set c.args.targets.now) (in_fits c.args.set.now) c.stays_in_range.ensures c.requires
    (c.in_ok-overlap.ensures.none c.in_default.is)) c.first_among_others.ensures.free
