use Rattle.std.proofs.Common.{◌≡◌, ℕ, ◌<◌, ◌≤◌, get_or}
use Rattle.icu_table_weights.proofs.weight_set.WeightSet.has_block.Given as goal

-- the words so far have no bits
abbrev pub invariant-loop-place : goal.invariant-loop-place
invariant-loop-place l = (k : ℕ) → l.first ≤ k → k < l.place → get_or l.words k 0 ≡ 0
