-- Tables that can be borrowed, and those that are refused.
use Rattle.std.specs.Prelude.{◌≡◌, List, Option, IfSome, length}
use Rattle.icu_table_provider.specs.well_formed.WellFormedTables.{IsWellFormedTables}
use Rattle.icu_table_data.specs.CodePointTables.{IsCodePointTable}
use Rattle.icu_table_data.specs.Contexts.{IsContextTable}
use Rattle.icu_table_entries.specs.declared.error.DataError.{DataError}
use Rattle.icu_table_entries.specs.declared.error.DataErrorKind.TheVariants.{NoMemory}
use Rattle.icu_table_provider.specs.Diacritics.{IsDiacritics}
use Rattle.icu_table_provider.specs.Jamo.{IsJamo}
use Rattle.icu_table_provider.specs.Reorderings.{Reordering}
use Rattle.icu_table_provider.specs.SpecialPrimaries.{IsSpecialPrimaries}
use Rattle.icu_table_files.specs.fingerprint.FingerprintForms.{StoredData, StoredTables, tables_stored}

-- the lists of a root or a tailoring can be borrowed
pub record CanBorrow (s : StoredData) : Type 0 where
  pub table : IsCodePointTable s.blocks s.values
  pub context_table : IsContextTable s.contexts s.mappings s.chars

-- those of a tailoring, if there is one
abbrev pub CanBorrowTailoring : Option StoredData → Type 0
CanBorrowTailoring o = IfSome o CanBorrow

-- those of a reordering, if there is one
abbrev pub CanBorrowReordering : Option Reordering → Type 0
CanBorrowReordering o = IfSome o (λ r. length r.leads ≡ 256)

-- all tables can be borrowed
pub record CanBorrowAll (s : StoredTables) : Type 0 where
  pub root : CanBorrow s.root
  pub tailoring : CanBorrowTailoring s.tailoring
  pub jamo : IsJamo s.jamo
  pub diacritics : IsDiacritics s.diacritics
  pub special : IsSpecialPrimaries s.last s.numeric
  pub reordering : CanBorrowReordering s.reordering

-- an error of tables: if they can be borrowed and are well-formed, memory ran out
abbrev pub RefusesTables : StoredTables → DataError → Type 0
RefusesTables s e = CanBorrowAll s → IsWellFormedTables (tables_stored s) → e.kind ≡ NoMemory
