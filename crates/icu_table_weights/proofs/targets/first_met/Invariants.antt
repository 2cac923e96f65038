use Rattle.std.proofs.Common.{ℕ, ◌<◌, get_or, option_map}
use Rattle.icu_table_provider.specs.StoredTables.{reordering_of}
use Rattle.icu_table_weights.specs.Overlaps.{written_bytes}
use Rattle.icu_table_weights.specs.WeightSets.{weights_of_set}
use Rattle.icu_table_weights.specs.inner.Targets.{IsApartFromThree}
use Rattle.icu_table_weights.proofs.targets.first_met.Given as goal

-- the weights so far don't overlap with any of three bytes
abbrev pub invariant-loop-weight : goal.invariant-loop-weight
invariant-loop-weight l = (k : ℕ) → k < l.weight-index → IsApartFromThree (written_bytes (option_map reordering_of l.reordering)) (weights_of_set l.set) (get_or l.weight-items k 0)
