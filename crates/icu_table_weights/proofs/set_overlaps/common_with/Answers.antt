use Rattle.std.proofs.Common.{subst, option_map, Contains}
use Rattle.icu_table_provider.specs.StoredTables.{reordering_of}
use Rattle.icu_table_weights.specs.Overlaps.{written_bytes}
use Rattle.icu_table_weights.specs.WeightSets.{weights_of_set}
use Rattle.icu_table_weights.proofs.TargetLemmas.{cons_among, overlaps_among, some_weaker}
use Rattle.icu_table_weights.proofs.set_overlaps.common_with.Goals as goal

pub returns : goal.returns
returns c =
    some_weaker c.common_in_list.result _ _
    (λ o. overlaps_among (written_bytes (option_map reordering_of c.args.reordering)) _ (weights_of_set c.args.set.now) _ _
    (cons_among c.deref.result.now (weights_of_set c.args.set.now) c.args.weight c.requires.member (λ v h. ((c.in_ok-list.ensures v).0 (subst (λ l. Contains l v) c.deref.ensures.value h)).has)))
    c.common_in_list.ensures
