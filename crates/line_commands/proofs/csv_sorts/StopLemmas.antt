-- Where no write failed nothing was printed.
use Rattle.std.proofs.Common.{◌≡◌, ◌≢◌, Err, IfErr, List, Ok, OnErr, Option, Result, subst, sym, ℕ}
use Rattle.std.specs.Io.KnownBytes.{Keeps}
use Rattle.program_files.specs.PartialWrites.{AppendsBeginning}
use Rattle.line_commands.specs.csv_sorts.CsvErrors.{ExplainsCsv}
use Rattle.line_commands.specs.csv_sorts.SortedRecords.{StopsCsv}
use Rattle.line_commands.specs.declared.csv_sorts.csv_request.CsvError.{CsvError}
use Rattle.line_commands.specs.declared.csv_sorts.csv_request.CsvError.TheVariants as csv_errors
use Rattle.line_commands.specs.declared.csv_sorts.csv_request.CsvRequest.{CsvRequest}

pub kept_unwritten : (r : CsvRequest) (text : List ℕ) (is_text : List ℕ → Type 0) (old new : Option (List ℕ)) (e : CsvError)
    → Keeps old new → ExplainsCsv r text e → StopsCsv is_text old new e
kept_unwritten r text is_text old new csv_errors.NoMemory keeps is = keeps
kept_unwritten r text is_text old new (csv_errors.Lacks index column) keeps is = keeps
kept_unwritten r text is_text old new (csv_errors.Open index) keeps is = keeps
kept_unwritten r text is_text old new (csv_errors.Unnamed word) keeps is = keeps
kept_unwritten r text is_text old new (csv_errors.Ambiguous word) keeps is = keeps
kept_unwritten r text is_text old new csv_errors.ReadFailed keeps is = keeps
kept_unwritten r text is_text old new csv_errors.WriteFailed keeps is = absurd is

-- where a write failed a beginning was printed
pub write_stopped : {X : Type 0} (result : Result X CsvError) (is_text : List ℕ → Type 0) (old new : Option (List ℕ)) (text : List ℕ) → is_text text
    → OnErr result (AppendsBeginning old new text) → IfErr result (λ e. e ≡ csv_errors.WriteFailed) → IfErr result (StopsCsv is_text old new)
write_stopped (Ok x) is_text old new text is begins failed = tt
write_stopped (Err e) is_text old new text is begins failed = subst (StopsCsv is_text old new) (sym failed) (text, is, begins)

-- and that is explained by nothing else
pub write_explained : {X : Type 0} (result : Result X CsvError) (r : CsvRequest) (text : List ℕ)
    → IfErr result (λ e. e ≡ csv_errors.WriteFailed) → IfErr result (λ e. e ≢ csv_errors.WriteFailed → ExplainsCsv r text e)
write_explained (Ok x) r text failed = tt
write_explained (Err e) r text failed = λ other. absurd (other failed)
