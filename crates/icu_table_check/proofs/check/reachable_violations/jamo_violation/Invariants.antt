use Rattle.std.proofs.Common.{◌≡◌, ℕ, ◌<◌, None, IfSome}
use Rattle.icu_table_provider.specs.TableSets.{tables_in}
use Rattle.icu_table_check.specs.inner.Violations.{IsTrueViolation}
use Rattle.icu_table_check.specs.inner.EntryViolations.{JamoPasses}
use Rattle.icu_table_check.proofs.check.reachable_violations.jamo_violation.Given as goal

-- without a violation so far there is none at an earlier place, and one so far is true
abbrev pub invariant-loop-place : goal.invariant-loop-place
invariant-loop-place l =
    (l.first ≡ None → (i : ℕ) → i < l.place → JamoPasses (tables_in l.fn.tables) i) × IfSome l.first (IsTrueViolation (tables_in l.fn.tables))
