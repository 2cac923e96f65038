-- Why records aren't sorted, from one call to the next.
use Rattle.std.proofs.Common.{◌≡◌, ◌<◌, ◌-◌, ℕ, suc, zero, false, List, [], ◌∷◌, None, get_or, length, refl, arith, ap, ◌∙◌, sym, subst, take, drop, ◌≤◌, Result, Ok, Err, Option}
use Rattle.std.specs.Prelude.{IfErr}
use Rattle.std.proofs.lemmas.List.{take_all}
use Rattle.std.proofs.lemmas.List.Elements.{Contains-get_or}
use Rattle.std.specs.Borrow.{Bor}
use Rattle.csv.specs.Reading.{strip_bom}
use Rattle.csv.specs.Records.{field_at}
use Rattle.line_sorts.specs.csv_records.CsvCuts.{HasRecords, is_closed}
use Rattle.line_sorts.specs.csv_records.CsvFields.{csv_fields}
use Rattle.line_sorts.specs.declared.csv_records.record_fields.FieldsError.{FieldsError}
use Rattle.line_sorts.specs.declared.csv_records.record_fields.FieldsError.TheVariants as fields_errors
use Rattle.line_sorts.specs.ShownLines.{shown_lines}
use Rattle.line_commands.specs.csv_sorts.ColumnOrders.{body_of}
use Rattle.line_commands.specs.csv_sorts.CsvErrors.{ExplainsClosing, ExplainsCsv, ExplainsField, ExplainsFields, ExplainsKeys, ExplainsOpen, LacksAsked, LastIsOpen, SomeLacks, of_fields}
use Rattle.line_commands.specs.declared.csv_sorts.csv_request.CsvError.{CsvError}
use Rattle.line_commands.specs.declared.csv_sorts.csv_request.CsvError.TheVariants as csv_errors
use Rattle.line_commands.specs.declared.csv_sorts.csv_request.ColumnSort.{ColumnSort}
use Rattle.line_commands.specs.declared.csv_sorts.csv_request.CsvRequest.{CsvRequest}

-- one column of several
pub fields_explained : (fields : List (List ℕ)) (columns : List ColumnSort) (i : ℕ) (other : ColumnSort) (e : CsvError) → i < length columns
    → ExplainsField fields (get_or columns i other).column e → ExplainsFields fields columns e
fields_explained fields columns i other csv_errors.NoMemory below is = tt
fields_explained fields columns i other (csv_errors.Lacks index column) below is =
    record {
      sort = get_or columns i other;
      asked = Contains-get_or columns i other below;
      same = sym is.0;
      lacks = subst (λ c. field_at fields c ≡ None) (sym is.0) is.1;
    }
fields_explained fields columns i other csv_errors.ReadFailed below is = absurd is
fields_explained fields columns i other (csv_errors.Open index) below is = absurd is
fields_explained fields columns i other (csv_errors.Unnamed word) below is = absurd is
fields_explained fields columns i other (csv_errors.Ambiguous word) below is = absurd is
fields_explained fields columns i other csv_errors.WriteFailed below is = absurd is

-- fields that weren't read
pub read_explained : (fields : List (List ℕ)) (columns : List ColumnSort) (e : FieldsError) → ExplainsFields fields columns (of_fields e)
read_explained fields columns fields_errors.NoMemory = tt
read_explained fields columns fields_errors.ReadFailed = tt

-- the bytes of a borrowed record
shown_at : (records : List (Bor (List ℕ))) (i : ℕ) (other : Bor (List ℕ)) → i < length records
    → get_or (shown_lines records) i [] ≡ (get_or records i other).now
shown_at [] i other below = absurd (omega (arith, below))
shown_at (x ∷ records) zero other below = refl
shown_at (x ∷ records) (suc i) other below = shown_at records i other (omega (arith, below))

shown_length : (records : List (Bor (List ℕ))) → length (shown_lines records) ≡ length records
shown_length [] = refl
shown_length (x ∷ records) = ap suc (shown_length records)

-- one record of several
pub keys_explained : (r : CsvRequest) (records : List (Bor (List ℕ))) (i : ℕ) (other : Bor (List ℕ)) (e : CsvError) → i < length records
    → ExplainsFields (csv_fields r.delimiter (get_or records i other).now) r.columns.now e → ExplainsKeys r (shown_lines records) e
keys_explained r records i other csv_errors.NoMemory below is = tt
keys_explained r records i other csv_errors.ReadFailed below is = tt
keys_explained r records i other (csv_errors.Lacks index column) below is =
    record {
      index = i;
      below = subst (λ n. i < n) (sym (shown_length records)) below;
      asked = subst (λ b. LacksAsked (csv_fields r.delimiter b) r.columns.now column) (sym (shown_at records i other below)) is;
    }
keys_explained r records i other (csv_errors.Open index) below is = absurd is
keys_explained r records i other (csv_errors.Unnamed word) below is = absurd is
keys_explained r records i other (csv_errors.Ambiguous word) below is = absurd is
keys_explained r records i other csv_errors.WriteFailed below is = absurd is

-- the first record
pub first_explained : (r : CsvRequest) (records : List (Bor (List ℕ))) (other : Bor (List ℕ)) (e : CsvError) → 1 ≤ length records
    → ExplainsFields (csv_fields r.delimiter (get_or records 0 other).now) r.columns.now e → ExplainsKeys r (shown_lines records) e
first_explained r records other e some is = keys_explained r records 0 other e (omega (arith, some)) is

-- a record behind the first
pub later_explained : (r : CsvRequest) (records : List (Bor (List ℕ))) (i : ℕ) (other : Bor (List ℕ)) (e : CsvError) → i < length records - 1
    → ExplainsFields (csv_fields r.delimiter (get_or (take (length records - 1) (drop 1 records)) i other).now) r.columns.now e
    → ExplainsKeys r (shown_lines records) e
later_explained r [] i other e below is = absurd (omega (arith, below))
later_explained r (x ∷ records) i other e below is =
    let within : suc i < length (x ∷ records) = omega (arith, below) in
    let rest : take (length (x ∷ records) - 1) records ≡ records = take_all (length (x ∷ records) - 1) records (omega arith) in
    keys_explained r (x ∷ records) (suc i) other e within
    (subst (λ (ls : List (Bor (List ℕ))). ExplainsFields (csv_fields r.delimiter (get_or ls i other).now) r.columns.now e) rest is)

-- the last record
pub last_open : (delimiter : ℕ) (records : List (Bor (List ℕ))) (i : ℕ) (other : Bor (List ℕ)) → 0 < length records → i ≡ length records - 1
    → is_closed delimiter (get_or records i other).now ≡ false → LastIsOpen delimiter (shown_lines records) i
last_open delimiter records i other some at is =
    let below : i < length records = omega arith in
    let last : suc i ≡ length records = omega arith in
    record {
      last = last ∙ sym (shown_length records);
      open_quote = subst (λ b. is_closed delimiter b ≡ false) (sym (shown_at records i other below)) is;
    }

-- records that aren't closed
pub open_explained : (delimiter : ℕ) (text : List ℕ) (records : List (List ℕ)) (e : CsvError) → HasRecords delimiter text records
    → ExplainsClosing delimiter records e → ExplainsOpen delimiter text e
open_explained delimiter text records (csv_errors.Open index) has is = (records, has, is)
open_explained delimiter text records csv_errors.NoMemory has is = absurd is
open_explained delimiter text records csv_errors.ReadFailed has is = absurd is
open_explained delimiter text records (csv_errors.Lacks index column) has is = absurd is
open_explained delimiter text records (csv_errors.Unnamed word) has is = absurd is
open_explained delimiter text records (csv_errors.Ambiguous word) has is = absurd is
open_explained delimiter text records csv_errors.WriteFailed has is = absurd is

-- records of a text without a mark that aren't closed
pub csv_open : (r : CsvRequest) (text : List ℕ) (e : CsvError) → ExplainsOpen r.delimiter (strip_bom text) e → ExplainsCsv r text e
csv_open r text (csv_errors.Open index) is = is
csv_open r text csv_errors.NoMemory is = tt
csv_open r text csv_errors.ReadFailed is = absurd is
csv_open r text (csv_errors.Lacks index column) is = absurd is
csv_open r text (csv_errors.Unnamed word) is = absurd is
csv_open r text (csv_errors.Ambiguous word) is = absurd is
csv_open r text csv_errors.WriteFailed is = absurd is

-- records without keys
pub csv_lacks : (r : CsvRequest) (text : List ℕ) (records body : List (List ℕ)) (e : CsvError) → HasRecords r.delimiter (strip_bom text) records
    → body ≡ body_of r.has_header records → ExplainsKeys r body e → ExplainsCsv r text e
csv_lacks r text records body (csv_errors.Lacks index column) has behind is =
    (records, has, subst (λ b. SomeLacks r b column) behind is)
csv_lacks r text records body csv_errors.NoMemory has behind is = tt
csv_lacks r text records body csv_errors.ReadFailed has behind is = tt
csv_lacks r text records body (csv_errors.Open index) has behind is = absurd is
csv_lacks r text records body (csv_errors.Unnamed word) has behind is = absurd is
csv_lacks r text records body (csv_errors.Ambiguous word) has behind is = absurd is
csv_lacks r text records body csv_errors.WriteFailed has behind is = absurd is

-- a call that looks for a record, where some have no key
pub none_found : (r : CsvRequest) (text : List ℕ) (records body : List (List ℕ)) (found : Result (Option ℕ) CsvError)
    → HasRecords r.delimiter (strip_bom text) records → body ≡ body_of r.has_header records → IfErr found (ExplainsKeys r body)
    → IfErr found (ExplainsCsv r text)
none_found r text records body (Ok index) has behind is = tt
none_found r text records body (Err e) has behind is = csv_lacks r text records body e has behind is
