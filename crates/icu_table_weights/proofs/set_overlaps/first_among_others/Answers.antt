use Rattle.std.proofs.Common.{option_map, Contains}
use Rattle.icu_table_provider.specs.StoredTables.{reordering_of}
use Rattle.icu_table_weights.specs.Overlaps.{written_bytes}
use Rattle.icu_table_weights.specs.WeightSets.{weights_of_set}
use Rattle.icu_table_weights.proofs.TargetLemmas.{free_within, overlaps_within}
use Rattle.icu_table_weights.proofs.set_overlaps.first_among_others.Goals as goal

pub returns-clause-free : goal.returns-clause-free
returns-clause-free c =
    free_within c.first_overlap.result (written_bytes (option_map reordering_of c.args.reordering)) (Contains c.in_ok-others.others.items) _ (λ w. (c.in_ok-others.ensures.members w).1) c.first_overlap.ensures.free

pub returns-clause-overlaps : goal.returns-clause-overlaps
returns-clause-overlaps c =
    overlaps_within c.first_overlap.result (written_bytes (option_map reordering_of c.args.reordering)) c.in_ok-others.others.items (weights_of_set c.args.set.now)
    (λ p h. ((c.in_ok-others.ensures.members p).0 h).0) c.first_overlap.ensures.overlaps
