use Rattle.std.proofs.Common.{rules}
use Rattle.std.specs.Global.{Vec}
use Rattle.std.proofs.lemmas.List.Sorted.{IsPartitionPoint-from_clause}
use Rattle.icu_index_keys.proofs.LeafPlaceLemmas.{parted_by}
use Rattle.icu_index_keys.specs.declared.name_entries.Entry.{Entry}
use Rattle.icu_index_keys.specs.inner.NameEntries.{entry_before}
use Rattle.icu_index_keys.specs.inner.Leaves.{leaf_before}
use Rattle.icu_index_keys.proofs.leaf_places.leaves_before.Goals as goal

pub returns-clause-point : goal.returns-clause-point
returns-clause-point c = λ parted.
    let test = λ (l : Vec Entry). leaf_before (entry_before c.args.bytes.now c.args.sought.now.border) l.items in
    IsPartitionPoint-from_clause test c.args.leaves.now c.partition_point.result c.partition_point.ensures.partitioned (parted_by test c.args.leaves.now parted) (λ a r f k. search rules)
