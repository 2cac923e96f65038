use Rattle.std.proofs.Common.{option_map, arith}
use Rattle.icu_table_provider.specs.StoredTables.{reordering_of}
use Rattle.icu_table_weights.specs.Overlaps.{written_bytes}
use Rattle.icu_table_weights.specs.inner.Targets.{ArePrefixFree}
use Rattle.icu_table_weights.proofs.TargetLemmas.{overlaps_among, pair_among, by_index}
use Rattle.icu_table_weights.proofs.targets.overlap_in_list.Goals as goal

pub returns-in-Some-clause-overlaps : goal.returns-in-Some-clause-overlaps
returns-in-Some-clause-overlaps c =
    overlaps_among (written_bytes (option_map reordering_of c.args.reordering)) _ _ _ _ (pair_among c.args.weights.now c.loop-other.other-index c.args.weight (omega arith)) c.in-Some.ensures.overlaps

pub returns-clause-none : goal.returns-clause-none
returns-clause-none c = λ _.
    by_index (λ v. ArePrefixFree (written_bytes (option_map reordering_of c.args.reordering)) v c.args.weight) c.args.weights.now
    (λ k inside. c.loop-other.invariant k (omega arith))
