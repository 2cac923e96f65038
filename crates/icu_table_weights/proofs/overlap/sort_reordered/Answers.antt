use Rattle.std.proofs.Common.{option_map, arith}
use Rattle.std.proofs.lemmas.List.Sorted.{IsNonDecreasingBy-from_sort_by_key}
use Rattle.icu_table_provider.specs.StoredTables.{reordering_of}
use Rattle.icu_table_provider.specs.CollatorTables.{reorder_by}
use Rattle.icu_table_weights.proofs.overlap.sort_reordered.Goals as goal

pub returns-clause-ascending : goal.returns-clause-ascending
returns-clause-ascending c =
    IsNonDecreasingBy-from_sort_by_key (reorder_by (option_map reordering_of c.args.reordering)) _ c.in_ok-sort_by_key.ensures.sorted (λ a r q k. search arith)
