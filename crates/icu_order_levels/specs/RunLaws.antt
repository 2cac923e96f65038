-- The law on the length of runs, as contracts name it.
use Rattle.std.specs.Prelude.{ℕ, ◌+◌, ◌/◌, ◌≤◌, length}
use Rattle.icu_order_levels.specs.declared.run_bytes.RunBytes.{RunBytes}
use Rattle.icu_order_levels.specs.Runs.{run_before_less, run_before}

-- n common weights are written in at most 1 + n / count bytes, whatever follows
abbrev pub RunsAreShort : RunBytes → ℕ → Type 0
RunsAreShort r count = (n w : ℕ) → (length (run_before_less r n) ≤ 1 + n / count) × (length (run_before r n w) ≤ 1 + n / count)
