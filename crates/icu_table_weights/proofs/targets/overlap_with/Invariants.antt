use Rattle.std.proofs.Common.{ℕ, option_map}
use Rattle.icu_table_provider.specs.StoredTables.{reordering_of}
use Rattle.icu_table_weights.specs.Overlaps.{written_bytes}
use Rattle.icu_table_weights.specs.WeightSets.{weights_of_set}
use Rattle.icu_table_weights.specs.inner.Targets.{ArePrefixFree, IsBefore}
use Rattle.icu_table_weights.proofs.targets.overlap_with.Given as goal

-- the weights with the lead bytes so far don't overlap with it
abbrev pub invariant-loop-lead : goal.invariant-loop-lead
invariant-loop-lead l = (v : ℕ) → IsBefore (weights_of_set l.set) l.lead v → ArePrefixFree (written_bytes (option_map reordering_of l.reordering)) v l.weight
