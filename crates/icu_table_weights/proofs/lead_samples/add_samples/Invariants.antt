use Rattle.std.proofs.Common.{ℕ, ◌<◌, ◌⊎◌, get_or, Contains}
use Rattle.icu_table_provider.specs.StoredTables.{reordering_of}
use Rattle.icu_table_weights.specs.inner.Targets.{IsSampled}
use Rattle.icu_table_weights.proofs.lead_samples.add_samples.Given as goal

-- the weights so far are sampled, and no others were added
abbrev pub invariant-loop-weight : goal.invariant-loop-weight
invariant-loop-weight l = record {
  sampled : (k : ℕ) → k < l.weight-index → IsSampled (reordering_of l.reordering) l.samples.items (get_or l.weights k 0);
  keeps : (v : ℕ) → Contains l.fn.samples.items v → Contains l.samples.items v;
  only : (v : ℕ) → Contains l.samples.items v → Contains l.fn.samples.items v ⊎ Contains l.weights v;
}
