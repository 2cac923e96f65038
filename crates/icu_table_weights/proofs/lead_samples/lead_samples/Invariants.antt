use Rattle.std.proofs.Common.{◌≡◌, ℕ, false, Contains}
use Rattle.icu_table_provider.specs.StoredTables.{reordering_of}
use Rattle.icu_table_weights.specs.WeightSets.{is_three_bytes, weights_of_set}
use Rattle.icu_table_weights.specs.inner.Targets.{IsBefore, IsSampled}
use Rattle.icu_table_weights.proofs.lead_samples.lead_samples.Given as goal

-- the weights of other than three bytes are sampled, and those of three with the lead bytes so far
abbrev pub invariant-loop-lead : goal.invariant-loop-lead
invariant-loop-lead l = record {
  others : (w : ℕ) → Contains (weights_of_set l.set) w → is_three_bytes w ≡ false → IsSampled (reordering_of l.reordering) l.samples.items w;
  three : (w : ℕ) → IsBefore (weights_of_set l.set) l.lead w → IsSampled (reordering_of l.reordering) l.samples.items w;
  members : (v : ℕ) → Contains l.samples.items v → Contains (weights_of_set l.set) v;
}
