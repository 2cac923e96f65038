-- What a provider of the tables of Mini, or of a variant, returns: the same to each request.
use Rattle.std.specs.Prelude.{◌≡◌, ◌↔◌, Option, Some, None, IsOk, IfOk, IfErr, Result}
use Rattle.icu_table_entries.specs.declared.error.DataError.{DataError}
use Rattle.icu_table_entries.specs.declared.error.DataErrorKind.{DataErrorKind}
use Rattle.icu_table_entries.specs.declared.error.DataErrorKind.TheVariants as kinds
use Rattle.icu_table_entries.specs.declared.error.DataTable.{DataTable}
use Rattle.icu_table_entries.specs.declared.error.DataTable.TheVariants as tables
use Rattle.icu_table_provider.specs.Diacritics.{IsDiacritics, FailsDiacritics}
use Rattle.icu_table_provider.specs.Jamo.{IsJamo, FailsJamo}
use Rattle.icu_table_provider.specs.SpecialPrimaries.{IsSpecialPrimaries, FailsSpecial}
use Rattle.icu_table_provider.specs.StoredTables.{diacritics_of, jamo_of, reordering_of, special_of}
use Rattle.icu_table_data.specs.StoredData.{data_of}
use Rattle.icu_table_mini.specs.declared.mini.Mini.{Mini}
use Rattle.icu_table_provider.specs.declared.fixed_provider.FixedLoads.{FixedLoads}
use Rattle.icu_table_mini.specs.Mini.{special_held}
use Rattle.icu_table_mini.specs.ReorderingData.{reordering_held, HasAllLeads}
use Rattle.icu_table_provider.specs.builder.OwnedData.{vectors_data, MayBeData, FailsVectors}

-- the error names the table, and a kind of which this holds
abbrev pub Names : DataTable → (DataErrorKind → Type 0) → DataError → Type 0
Names table Fails e = (e.table ≡ table) × Fails e.kind

-- A table is returned exactly if it is accepted, and says then what it is to say. An error names it, and a condition
-- that it fails.
pub record IsLoaded {T A : Type 0} (says : T → A) (held : A) (Accepted : Type 0) (Refused : DataError → Type 0) (r : Result T DataError) : Type 0 where
  pub accepts : IsOk r ↔ Accepted
  pub holds : IfOk r (λ t. says t ≡ held)
  pub refuses : IfErr r Refused

-- a table that there may be is returned so where there is one; where there is none, it is absent
abbrev pub IsLoadedIfAny : {T D A : Type 0} → (T → A) → (D → A) → DataTable → (D → Type 0) → (D → DataErrorKind → Type 0) → Option D → Result T DataError → Type 0
IsLoadedIfAny says held table Accepted Fails None r = IfErr r (Names table (λ k. k ≡ kinds.Absent)) × (IsOk r → ⊥)
IsLoadedIfAny says held table Accepted Fails (Some d) r = IsLoaded says (held d) (Accepted d) (Names table (Fails d)) r

-- what a provider of Mini's tables returns
pub record LoadsMini (m : Mini) (p : FixedLoads) : Type 0 where
  pub root : IsLoaded data_of (vectors_data m.root) (MayBeData m.root) (Names tables.Root (FailsVectors m.root)) p.root
  pub jamo : IsLoaded jamo_of m.jamo.items (IsJamo m.jamo.items) (Names tables.Jamo (FailsJamo m.jamo.items)) p.jamo
  pub special : IsLoaded special_of (special_held m) (IsSpecialPrimaries m.last_primaries.items m.numeric_primary)
      (Names tables.SpecialPrimaries (FailsSpecial m.last_primaries.items m.numeric_primary)) p.special
  pub metadata : IfOk p.metadata (λ b. b.bits ≡ m.metadata.bits) × IsOk p.metadata
  pub tailoring : IsLoadedIfAny data_of vectors_data tables.Tailoring MayBeData FailsVectors m.tailoring p.tailoring
  pub reordering : IsLoadedIfAny reordering_of reordering_held tables.Reordering HasAllLeads (λ r k. k ≡ kinds.Length) m.reordering p.reordering
  pub diacritics : IsLoaded diacritics_of m.diacritics.items (IsDiacritics m.diacritics.items) (Names tables.Diacritics (FailsDiacritics m.diacritics.items)) p.diacritics
