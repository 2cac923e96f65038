-- The least number that meets a test.
use Rattle.std.specs.Prelude.{ℕ, ◌+◌, zero, suc, Bool, if◌then◌else◌}

-- the least of so many numbers from a first one on that meets a test, or the one behind them where none does
abbrev pub least_meeting : (ℕ → Bool) → ℕ → ℕ → ℕ
least_meeting test first zero = first
least_meeting test first (suc more) = if test first then first else least_meeting test (first + 1) more
