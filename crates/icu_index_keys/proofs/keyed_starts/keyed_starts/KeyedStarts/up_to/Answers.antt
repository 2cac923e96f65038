use Rattle.std.proofs.Common.{◌∙◌, ap, map, rules, subst, sym}
use Rattle.std.proofs.lemmas.List.Sorted.{IsPartitionPoint-from_clause}
use Rattle.std.specs.Ordering.{is_le}
use Rattle.icu_index_keys.proofs.LeafPlaceLemmas.{parted_by}
use Rattle.icu_index_keys.specs.inner.Leaves.{IsParted}
use Rattle.icu_index_keys.proofs.keyed_starts.StartLemmas.{counted, le_parted}
use Rattle.icu_index_keys.specs.keyed_starts.KeyOrders.{key_order}
use Rattle.icu_index_keys.specs.keyed_starts.Starts.{start_of, starts_up_to}
use Rattle.icu_index_keys.specs.declared.keyed_starts.starts.Start.{Start}
use Rattle.icu_index_keys.proofs.keyed_starts.keyed_starts.KeyedStarts.up_to.Goals as goal

pub returns : goal.returns
returns c =
    let test = λ (s : Start). is_le (key_order c.args.key.now s) in
    let parted = subst (IsParted test) (sym c.deref.ensures.value) (le_parted c.args.key.now c.args.self.now.starts.items c.args.self.now.ascend) in
    counted c.args.key.now c.deref.result.now c.partition_point.result c.partition_point.ensures.bound
    (IsPartitionPoint-from_clause test c.deref.result.now c.partition_point.result c.partition_point.ensures.partitioned
    (parted_by test c.deref.result.now parted) (λ a r f k. search rules))
    ∙ ap (λ ss. starts_up_to c.args.key.now (map start_of ss)) c.deref.ensures.value
