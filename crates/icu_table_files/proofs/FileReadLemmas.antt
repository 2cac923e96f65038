-- What is read of a file is what it says.
use Rattle.std.proofs.Common.{◌≡◌, ℕ, ◌<◌, ◌^◌, List, length, Result, Ok, Err, refl, sym, ap, subst, ◌∙◌, arith}
use Rattle.std.specs.Prelude.{IfErr, IfOk}
use Rattle.icu_table_provider.specs.well_formed.WellFormedTables.{IsWellFormedTables}
use Rattle.icu_table_entries.specs.declared.error.DataError.{DataError}
use Rattle.icu_table_entries.specs.declared.error.DataErrorKind.{DataErrorKind}
use Rattle.icu_table_entries.specs.declared.error.DataErrorKind.TheVariants as kinds
use Rattle.icu_table_files.specs.fingerprint.FingerprintForms.{tables_stored}
use Rattle.icu_table_files.specs.parts.FrameErrors.{IsUnframed}
use Rattle.icu_table_files.specs.parts.Frames.{framed}
use Rattle.icu_table_files.specs.declared.parts.form_error.FormError.{FormError}
use Rattle.icu_table_files.specs.declared.parts.form_error.FormError.TheVariants as forms
use Rattle.icu_table_files.specs.declared.parts.frame_error.FrameError.{FrameError}
use Rattle.icu_table_files.specs.FileContents.{FileContents, StoredContents, contents_stored}
use Rattle.icu_table_files.specs.TableFiles.{IsFileOf}
use Rattle.icu_table_files.specs.FileReading.{IsReadError, ReadsBack, contents_in, of_data_error, of_form_error}
use Rattle.icu_table_files.specs.TableBytes.{content_bytes}
use Rattle.icu_table_files.specs.declared.table_file_error.TableFileError.{TableFileError}
use Rattle.icu_table_files.specs.declared.table_file_error.TableFileError.TheVariants.{NoMemory, Frame, Length, Value, Table}
use Rattle.icu_table_files.specs.declared.table_file.TableFile.{TableFile}
use Rattle.icu_table_files.specs.inner.CheckedFiles.{CanBorrowAll}
use Rattle.icu_table_files.specs.inner.ReadRefusals.{IsNoFrameError, RefusesBody, RefusesStored}
use Rattle.icu_table_files.specs.inner.Spelt.{SpellsContents}
use Rattle.icu_table_files.specs.inner.Vectors.{HaveWidths}
use Rattle.icu_table_files.proofs.FileLemmas.{borrows_of, file_says, framed_length, frames_tell, storable_of, widths_of}
use Rattle.icu_table_files.proofs.TellingLemmas.{contents_tell}

-- ---- errors

pub data_no_memory : (e : DataError) → e.kind ≡ kinds.NoMemory → of_data_error e ≡ NoMemory
data_no_memory e h = ap (λ (k : DataErrorKind). elim k as (λ _. TableFileError) [ kinds.NoMemory ↦ NoMemory | _ ↦ Table e ]) h

kind_no_frame : (k : DataErrorKind) (e : DataError) (f : FrameError) → (elim k as (λ _. TableFileError) [ kinds.NoMemory ↦ NoMemory | _ ↦ Table e ]) ≡ Frame f → ⊥
kind_no_frame kinds.NoMemory e f h = cc
kind_no_frame _ e f h = cc

pub data_no_frame : (e : DataError) → IsNoFrameError (of_data_error e)
data_no_frame e f h = kind_no_frame e.kind e f h

pub form_no_frame : (e : FormError) → IsNoFrameError (of_form_error e)
form_no_frame forms.NoMemory f h = cc
form_no_frame forms.Length f h = cc
form_no_frame forms.Value f h = cc

pub body_error : (r : Result TableFile TableFileError) (bytes : List ℕ) → IfErr r IsNoFrameError → IfErr r (IsReadError bytes)
body_error (Ok f) bytes h = tt
body_error (Err NoMemory) bytes h = tt
body_error (Err (Frame f)) bytes h = absurd (h f refl)
body_error (Err Length) bytes h = tt
body_error (Err Value) bytes h = tt
body_error (Err (Table e)) bytes h = tt

-- ---- a body

pub body_says : (r : Result TableFile TableFileError) (s : StoredContents) (body : List ℕ) → HaveWidths s → content_bytes s ≡ body → IfOk r (λ f. contents_in f ≡ contents_stored s)
    → IfOk r (λ _. CanBorrowAll s.tables) → IfOk r (λ f. SpellsContents (contents_in f) body)
body_says (Ok f) s body widths e keeps borrows = record { stored = s; is = sym keeps; storable = storable_of s widths borrows; spelt = e }
body_says (Err d) s body widths e keeps borrows = tt

pub body_refuses : (r : Result TableFile TableFileError) (s : StoredContents) (body : List ℕ) → length body < 2 ^ 64 → HaveWidths s → content_bytes s ≡ body
    → IfErr r (RefusesStored s.tables) → IfErr r (RefusesBody body)
body_refuses (Ok f) s body small widths e h = tt
body_refuses (Err d) s body small widths e h =
    λ c spells well_formed.
    let same = contents_tell spells.stored s (widths_of spells.stored spells.storable) widths (omega (arith, small, ap length spells.spelt)) (spells.spelt ∙ sym e) in
    let tables : c.tables ≡ tables_stored s.tables = sym (ap (λ (x : FileContents). x.tables) spells.is) ∙ ap (λ (x : StoredContents). tables_stored x.tables) same in
    h (subst (λ (x : StoredContents). CanBorrowAll x.tables) same (borrows_of spells.stored.tables spells.storable.tables)) (subst IsWellFormedTables tables well_formed)

-- ---- a file

pub file_spelt : (r : Result TableFile TableFileError) (body bytes : List ℕ) → framed body ≡ bytes → IfOk r (λ f. SpellsContents (contents_in f) body) → IfOk r (λ f. IsFileOf (contents_in f) bytes)
file_spelt (Ok f) body bytes e h = record { stored = h.stored; is = h.is; storable = h.storable; spelt = ap framed h.spelt ∙ e }
file_spelt (Err d) body bytes e h = tt

-- the length of a file's body
body_small : (c : FileContents) (bytes : List ℕ) → length bytes < 2 ^ 64 → (file : IsFileOf c bytes) → length (content_bytes file.stored) < 2 ^ 64
body_small c bytes small file = omega (arith, small, framed_length (content_bytes file.stored), ap length file.spelt)

pub reads_back : (r : Result TableFile TableFileError) (body bytes : List ℕ) → length bytes < 2 ^ 64 → framed body ≡ bytes → IfOk r (λ f. SpellsContents (contents_in f) body)
    → IfErr r (RefusesBody body) → (c : FileContents) → IsFileOf c bytes → ReadsBack c r
reads_back (Ok f) body bytes small e says refused c file =
    sym says.is ∙ file_says c bytes says.stored (widths_of says.stored says.storable) small (ap framed says.spelt ∙ e) file
reads_back (Err d) body bytes small e says refused c file =
    let b : length body < 2 ^ 64 = omega (arith, small, framed_length body, ap length e) in
    let spelt = frames_tell (content_bytes file.stored) body (body_small c bytes small file) b (file.spelt ∙ sym e) in
    refused c (record { stored = file.stored; is = file.is; storable = file.storable; spelt = spelt })

pub unframed_reads : (bytes : List ℕ) (e : TableFileError) → length bytes < 2 ^ 64 → IsUnframed bytes → (c : FileContents) → IsFileOf c bytes → IsWellFormedTables c.tables → e ≡ NoMemory
unframed_reads bytes e small h c file _ = absurd (h (content_bytes file.stored) (body_small c bytes small file) file.spelt)
