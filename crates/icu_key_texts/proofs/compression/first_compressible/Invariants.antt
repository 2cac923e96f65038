use Rattle.std.proofs.Common.{◌≡◌, ℕ, ◌<◌, ◌≤◌}
use Rattle.std.specs.Prelude.{slice_index}
use Rattle.icu_key_texts.proofs.compression.first_compressible.Given as goal

-- the numbers so far have no bit
abbrev pub invariant-loop-index : goal.invariant-loop-index
invariant-loop-index l = (k : ℕ) → 4 ≤ k → k < l.index → slice_index l.numbers k ≡ 0
