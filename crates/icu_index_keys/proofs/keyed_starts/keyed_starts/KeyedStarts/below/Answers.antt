use Rattle.std.proofs.Common.{rules, subst, sym}
use Rattle.std.proofs.lemmas.List.Sorted.{IsPartitionPoint-from_clause}
use Rattle.std.specs.Ordering.{is_lt}
use Rattle.icu_index_keys.proofs.LeafPlaceLemmas.{parted_by}
use Rattle.icu_index_keys.specs.inner.Leaves.{IsParted}
use Rattle.icu_index_keys.proofs.keyed_starts.StartLemmas.{IsPlace, lt_parted}
use Rattle.icu_index_keys.specs.keyed_starts.KeyOrders.{key_order}
use Rattle.icu_index_keys.specs.declared.keyed_starts.starts.Start.{Start}
use Rattle.icu_index_keys.proofs.keyed_starts.keyed_starts.KeyedStarts.below.Goals as goal

pub returns-clause-point : goal.returns-clause-point
returns-clause-point c =
    let test = λ (s : Start). is_lt (key_order c.args.key.now s) in
    let parted = subst (IsParted test) (sym c.deref.ensures.value) (lt_parted c.args.key.now c.args.self.now.starts.items c.args.self.now.ascend) in
    subst (λ ss. IsPlace c.args.key.now ss c.partition_point.result) c.deref.ensures.value
    (IsPartitionPoint-from_clause test c.deref.result.now c.partition_point.result c.partition_point.ensures.partitioned
    (parted_by test c.deref.result.now parted) (λ a r f k. search rules))
