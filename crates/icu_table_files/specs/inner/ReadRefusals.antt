-- Errors of a file, by what it would say.
use Rattle.std.specs.Prelude.{◌≡◌, ℕ, List}
use Rattle.icu_table_provider.specs.well_formed.WellFormedTables.{IsWellFormedTables}
use Rattle.icu_table_files.specs.fingerprint.FingerprintForms.{StoredTables, tables_stored}
use Rattle.icu_table_files.specs.declared.parts.frame_error.FrameError.{FrameError}
use Rattle.icu_table_files.specs.FileContents.{FileContents}
use Rattle.icu_table_files.specs.declared.table_file_error.TableFileError.{TableFileError}
use Rattle.icu_table_files.specs.declared.table_file_error.TableFileError.TheVariants.{Frame, NoMemory}
use Rattle.icu_table_files.specs.inner.CheckedFiles.{CanBorrowAll}
use Rattle.icu_table_files.specs.inner.Spelt.{SpellsContents}

-- an error of tables: if they can be borrowed and are well-formed, memory ran out
abbrev pub RefusesStored : StoredTables → TableFileError → Type 0
RefusesStored s e = CanBorrowAll s → IsWellFormedTables (tables_stored s) → e ≡ NoMemory

-- an error of a body: if it says well-formed tables, memory ran out
abbrev pub RefusesBody : List ℕ → TableFileError → Type 0
RefusesBody body e = (c : FileContents) → SpellsContents c body → IsWellFormedTables c.tables → e ≡ NoMemory

-- an error isn't one of the frame
abbrev pub IsNoFrameError : TableFileError → Type 0
IsNoFrameError e = (f : FrameError) → e ≡ Frame f → ⊥
