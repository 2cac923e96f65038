-- What each condition says of one table, and of all.
use Rattle.std.proofs.Common.{◌≡◌, inl, inr}
use Rattle.icu_table_entries.specs.declared.error.DataError.{DataError}
use Rattle.icu_table_entries.specs.declared.error.DataErrorKind.{DataErrorKind}
use Rattle.icu_table_entries.specs.declared.error.DataErrorKind.TheVariants as kinds
use Rattle.icu_table_entries.specs.declared.error.DataTable.{DataTable}
use Rattle.icu_table_provider.specs.declared.well_formed.condition.Condition.{Condition}
use Rattle.icu_table_provider.specs.declared.well_formed.condition.Condition.TheVariants as conditions
use Rattle.icu_table_provider.specs.CollatorTables.{CollatorTables}
use Rattle.icu_table_provider.specs.well_formed.WellFormedTables.{Meets, MeetsBy, IsWellFormedTables, FailsBy, IsTrueError}

-- a condition that holds does so as far as any table takes part
pub meets_by : (all : CollatorTables) (condition : Condition) (table : DataTable) → Meets condition all → MeetsBy condition table all
meets_by all conditions.DiacriticCount table meets = λ is. meets
meets_by all (conditions.Entry condition) table meets = meets table
meets_by all conditions.PrefixMappings table meets = λ is. meets
meets_by all (conditions.Element condition) table meets = λ own is. meets own
meets_by all (conditions.Pair condition) table meets = λ first second x is_x y is_y named. meets first second x is_x y is_y
meets_by all (conditions.Lead condition) table meets = λ is. meets

-- tables that meet the conditions are refused only where memory ran out
pub fails_not_well_formed : (all : CollatorTables) (table : DataTable) (kind : DataErrorKind) → FailsBy table kind all → IsWellFormedTables all → ⊥
fails_not_well_formed all table kind fails well_formed = fails.fails (meets_by all fails.condition table (well_formed.each fails.condition))

pub error_not_well_formed : (all : CollatorTables) (e : DataError) → IsTrueError all e → (e.kind ≡ kinds.NoMemory → ⊥) → IsWellFormedTables all → ⊥
error_not_well_formed all e (inl none) other well_formed = other none
error_not_well_formed all e (inr fails) other well_formed = fails_not_well_formed all e.table e.kind fails well_formed
