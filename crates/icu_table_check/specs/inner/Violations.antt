-- Which of the conditions that fail is named.
use Rattle.std.specs.Prelude.{ℕ, ◌+◌, ◌*◌}
use Rattle.icu_table_check.specs.declared.violation.Violation.{Violation}
use Rattle.icu_table_provider.specs.CollatorTables.{CollatorTables}
use Rattle.icu_table_check.specs.inner.ConditionGroups.{group_of, group_place}
use Rattle.icu_table_provider.specs.well_formed.WellFormedTables.{table_rank, MeetsBy}

-- by the group of its condition, then by table
unfoldable pub violation_rank : Violation → ℕ
violation_rank f = group_place (group_of f.condition) * 8 + table_rank f.table

-- the violation is true: the condition fails, and the table takes part in it
abbrev pub IsTrueViolation : CollatorTables → Violation → Type 0
IsTrueViolation all f = MeetsBy f.condition f.table all → ⊥
