use Rattle.std.proofs.Common.{ℕ, ◌<◌, get_or, option_map}
use Rattle.icu_table_provider.specs.StoredTables.{reordering_of}
use Rattle.icu_table_weights.specs.Overlaps.{written_bytes}
use Rattle.icu_table_weights.specs.inner.Targets.{ArePrefixFree}
use Rattle.icu_table_weights.proofs.targets.overlap_in_list.Given as goal

-- the weights so far don't overlap with it
abbrev pub invariant-loop-other : goal.invariant-loop-other
invariant-loop-other l = (k : ℕ) → k < l.other-index → ArePrefixFree (written_bytes (option_map reordering_of l.reordering)) (get_or l.weights k 0) l.weight
