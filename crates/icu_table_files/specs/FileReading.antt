-- What is read of a file, and what an error says.
use Rattle.std.specs.Prelude.{◌≡◌, ℕ, List, Result, Ok, Err}
use Rattle.std.specs.String.{string_bytes}
use Rattle.icu_table_provider.specs.well_formed.Checked.{checked_tables}
use Rattle.icu_table_provider.specs.well_formed.WellFormedTables.{IsWellFormedTables}
use Rattle.icu_table_entries.specs.declared.error.DataError.{DataError}
use Rattle.icu_table_entries.specs.declared.error.DataErrorKind.TheVariants as kinds
use Rattle.icu_table_files.specs.parts.FrameErrors.{IsFrameError}
use Rattle.icu_table_files.specs.declared.parts.form_error.FormError.{FormError}
use Rattle.icu_table_files.specs.declared.parts.form_error.FormError.TheVariants as forms
use Rattle.icu_table_files.specs.FileContents.{FileContents}
use Rattle.icu_table_files.specs.declared.table_file_error.TableFileError.{TableFileError}
use Rattle.icu_table_files.specs.declared.table_file_error.TableFileError.TheVariants.{NoMemory, Frame, Length, Value, Table}
use Rattle.icu_table_files.specs.declared.table_file.TableFile.{TableFile}

-- what an error of a form comes to
abbrev pub of_form_error : FormError → TableFileError
of_form_error forms.NoMemory = NoMemory
of_form_error forms.Length = Length
of_form_error forms.Value = Value

-- what an error of tables comes to
abbrev pub of_data_error : DataError → TableFileError
of_data_error e = elim e.kind as (λ _. TableFileError) [ kinds.NoMemory ↦ NoMemory | _ ↦ Table e ]

-- what a file that was read says
abbrev pub contents_in : TableFile → FileContents
contents_in f = record {
  tag = string_bytes f.texts.tag;
  cldr = string_bytes f.texts.cldr;
  unicode = string_bytes f.texts.unicode;
  tables = checked_tables f.tables;
}

-- what is read of a file that says this: just this, or memory ran out, unless its tables aren't well-formed
abbrev pub ReadsBack : FileContents → Result TableFile TableFileError → Type 0
ReadsBack c (Ok f) = contents_in f ≡ c
ReadsBack c (Err e) = IsWellFormedTables c.tables → e ≡ NoMemory

-- an error of the frame is true of these bytes
abbrev pub IsReadError : List ℕ → TableFileError → Type 0
IsReadError bytes (Frame e) = IsFrameError bytes e
IsReadError bytes _ = Unit {0}
