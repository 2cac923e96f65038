use Rattle.std.proofs.Common.{option_map}
use Rattle.icu_table_provider.specs.StoredTables.{reordering_of}
use Rattle.icu_table_weights.specs.Overlaps.{written_bytes}
use Rattle.icu_table_weights.specs.WeightSets.{weights_of_set}
use Rattle.icu_table_weights.proofs.TargetLemmas.{overlaps_within}
use Rattle.icu_table_weights.proofs.set_overlaps.first_common_among_others.Goals as goal

pub returns : goal.returns
returns c =
    overlaps_within c.first_common_overlap.result (written_bytes (option_map reordering_of c.args.reordering)) c.in_ok-others.others.items (weights_of_set c.args.set.now)
    (λ p h. ((c.in_ok-others.ensures.members p).0 h).0) c.first_common_overlap.ensures.overlaps
