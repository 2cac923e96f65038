use Rattle.std.proofs.Common.{ℕ, ◌+◌, ◌<◌}
use Rattle.icu_table_provider.specs.TableSets.{tables_in}
use Rattle.icu_table_check.specs.inner.EntryViolations.{HasEndsApart}
use Rattle.icu_table_check.proofs.check.entry_judge.implicit_passes.Given as goal

-- the blocks passed have such ends
abbrev pub invariant-loop-second : goal.invariant-loop-second
invariant-loop-second l = (s : ℕ) → s < l.second → HasEndsApart (tables_in l.tables) (0xFE00 + s)
