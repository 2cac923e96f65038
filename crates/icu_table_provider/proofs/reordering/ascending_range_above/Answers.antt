use Rattle.std.proofs.Common.{◌∙◌, sym, leb, rules}
use Rattle.std.specs.Prelude.{bit_or}
use Rattle.std.proofs.lemmas.List.Sorted.{IsPartitionPoint-from_clause, IsPartitionedBy-leb}
use Rattle.icu_table_provider.proofs.ReachedRangeLemmas.{found_at_point}
use Rattle.icu_table_provider.proofs.reordering.ascending_range_above.Goals as goal

pub returns : goal.returns
returns c =
    let parted = IsPartitionedBy-leb (λ range. range) c.args.ranges.now (bit_or c.args.primary 0xFFFF) c.requires in
    let point =
    IsPartitionPoint-from_clause (λ range. leb range (bit_or c.args.primary 0xFFFF)) c.args.ranges.now c.partition_point-index.result c.partition_point-index.ensures.partitioned parted
    (λ a r q k. search rules) in
    c.range_at.ensures ∙ sym (found_at_point c.args.primary c.args.ranges.now c.partition_point-index.result c.partition_point-index.ensures.bound point)
