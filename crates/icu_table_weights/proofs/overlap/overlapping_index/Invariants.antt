use Rattle.std.proofs.Common.{ℕ, ◌+◌, ◌<◌, option_map}
use Rattle.icu_table_provider.specs.StoredTables.{reordering_of}
use Rattle.icu_table_weights.specs.Overlaps.{NeighbourBegins, written_bytes}
use Rattle.icu_table_weights.proofs.overlap.overlapping_index.Given as goal

abbrev pub invariant-loop-next : goal.invariant-loop-next
invariant-loop-next l = (k : ℕ) → k + 1 < l.next → NeighbourBegins (written_bytes (option_map reordering_of l.reordering)) l.weights k → ⊥
