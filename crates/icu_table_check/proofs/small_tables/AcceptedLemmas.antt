-- What is said of tables that are checked, where they meet all conditions.
use Rattle.std.proofs.Common.{◌≡◌, ℕ, Result, Ok, Err, refl, sym, subst}
use Rattle.std.specs.Prelude.{IfOk, IfErr}
use Rattle.icu_table_entries.specs.declared.error.DataError.{DataError}
use Rattle.icu_table_entries.specs.declared.error.DataErrorKind.{DataErrorKind}
use Rattle.icu_table_entries.specs.declared.error.DataErrorKind.TheVariants.{NoMemory}
use Rattle.icu_table_data.specs.Data.{Data}
use Rattle.icu_table_provider.specs.builder.Building.{SaysOfCharacters}
use Rattle.icu_table_provider.specs.CollatorTables.{CollatorTables}
use Rattle.icu_table_provider.specs.declared.well_formed.checked.CheckedTables.{CheckedTables}
use Rattle.icu_table_provider.specs.well_formed.Checked.{checked_tables}
use Rattle.icu_table_provider.specs.well_formed.WellFormedTables.{IsWellFormedTables}
use Rattle.icu_table_check.specs.small_tables.SmallTables.{small_root, with_root, AreSmallTables, IsLowLead}
use Rattle.icu_table_check.proofs.small_tables.SmallTableLemmas.{same_tables_are_well_formed}

is_memory : (kind : DataErrorKind) → ((kind ≡ NoMemory → ⊥) → ⊥) → kind ≡ NoMemory
is_memory NoMemory h = refl
is_memory _ h = absurd (h (λ is. cc))

module _ (n : ℕ) (low : IsLowLead n) (root : Data) (says : SaysOfCharacters small_root root) (all : CollatorTables) (is : all ≡ with_root n root) where
  are : AreSmallTables all
  are = subst AreSmallTables (sym is) (record { numeric = low; root = says; others = refl })

  pub only_memory : (r : Result CheckedTables DataError) → IfErr r (λ e. (e.kind ≡ NoMemory → ⊥) → IsWellFormedTables all → ⊥) → IfErr r (λ e. e.kind ≡ NoMemory)
  only_memory (Ok tables) h = tt
  only_memory (Err e) h = is_memory e.kind (λ other. h other (same_tables_are_well_formed all are))

  pub kept_are_small : (r : Result CheckedTables DataError) → IfOk r (λ t. checked_tables t ≡ all) → IfOk r (λ t. AreSmallTables (checked_tables t))
  kept_are_small (Ok tables) h = subst AreSmallTables (sym h) are
  kept_are_small (Err e) h = tt
