-- What a provider of tables returns.
use Rattle.std.specs.Prelude.{ℕ, List, Result, Ok, Err}
use Rattle.icu_table_entries.specs.declared.error.DataError.{DataError}
use Rattle.icu_table_provider.specs.Requests.{Request}
use Rattle.icu_table_data.specs.Data.{Data}
use Rattle.icu_table_provider.specs.Reorderings.{Reordering}
use Rattle.icu_table_provider.specs.SpecialPrimaries.{SpecialPrimaries}

-- What each load returns: what the table says, or why there is none. The metadata is its bits, jamo are their entries,
-- and diacritics their secondary weights.
pub record Loads : Type 0 where
  pub root : Result Data DataError
  pub jamo : Result (List ℕ) DataError
  pub special : Result SpecialPrimaries DataError
  pub metadata : Request → Result ℕ DataError
  pub tailoring : Request → Result Data DataError
  pub reordering : Request → Result Reordering DataError
  pub diacritics : Request → Result (List ℕ) DataError

-- what a table says that is returned, or the error
abbrev pub answer : {T A : Type 0} → (T → A) → Result T DataError → Result A DataError
answer said (Ok table) = Ok (said table)
answer said (Err e) = Err e
