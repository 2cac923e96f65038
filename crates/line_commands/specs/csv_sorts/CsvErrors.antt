-- Why records aren't sorted.
use Rattle.std.specs.Prelude.{◌≡◌, ◌<◌, ℕ, suc, false, List, [], None, Contains, get_or, length}
use Rattle.csv.specs.Reading.{strip_bom}
use Rattle.csv.specs.Records.{field_at}
use Rattle.line_sorts.specs.csv_records.CsvCuts.{HasRecords, is_closed}
use Rattle.line_sorts.specs.csv_records.CsvFields.{csv_fields}
use Rattle.line_sorts.specs.declared.csv_records.record_fields.FieldsError.{FieldsError}
use Rattle.line_sorts.specs.declared.csv_records.record_fields.FieldsError.TheVariants as fields_errors
use Rattle.line_commands.specs.csv_sorts.ColumnOrders.{body_of}
use Rattle.line_commands.specs.declared.csv_sorts.csv_request.CsvError.{CsvError}
use Rattle.line_commands.specs.declared.csv_sorts.csv_request.CsvError.TheVariants as csv_errors
use Rattle.line_commands.specs.declared.csv_sorts.csv_request.ColumnSort.{ColumnSort}
use Rattle.line_commands.specs.declared.csv_sorts.csv_request.CsvRequest.{CsvRequest}

-- what an error of a record's fields comes to
abbrev pub of_fields : FieldsError → CsvError
of_fields fields_errors.NoMemory = csv_errors.NoMemory
of_fields fields_errors.ReadFailed = csv_errors.ReadFailed

-- a column is one of those that are asked for, and not one of the fields
pub record LacksAsked (fields : List (List ℕ)) (columns : List ColumnSort) (column : ℕ) : Type 0 where
  pub sort : ColumnSort
  pub asked : Contains columns sort
  pub same : sort.column ≡ column
  pub lacks : field_at fields column ≡ None

-- why fields have no key by a column: an allocation failed, or they are fewer
abbrev pub ExplainsField : List (List ℕ) → ℕ → CsvError → Type 0
ExplainsField fields column csv_errors.NoMemory = Unit {0}
ExplainsField fields column (csv_errors.Lacks index other) = (other ≡ column) × (field_at fields column ≡ None)
ExplainsField fields column _ = ⊥

-- why a record with these fields has no key: an allocation or a read failed, or it lacks a column
abbrev pub ExplainsFields : List (List ℕ) → List ColumnSort → CsvError → Type 0
ExplainsFields fields columns csv_errors.NoMemory = Unit {0}
ExplainsFields fields columns csv_errors.ReadFailed = Unit {0}
ExplainsFields fields columns (csv_errors.Lacks index column) = LacksAsked fields columns column
ExplainsFields fields columns _ = ⊥

-- one of some records lacks a column that is asked for
pub record SomeLacks (r : CsvRequest) (records : List (List ℕ)) (column : ℕ) : Type 0 where
  pub index : ℕ
  pub below : index < length records
  pub asked : LacksAsked (csv_fields r.delimiter (get_or records index [])) r.columns.now column

-- why some of these records have no key
abbrev pub ExplainsKeys : CsvRequest → List (List ℕ) → CsvError → Type 0
ExplainsKeys r records csv_errors.NoMemory = Unit {0}
ExplainsKeys r records csv_errors.ReadFailed = Unit {0}
ExplainsKeys r records (csv_errors.Lacks index column) = SomeLacks r records column
ExplainsKeys r records _ = ⊥

-- the last record is at an index, and its quotes aren't closed
pub record LastIsOpen (delimiter : ℕ) (records : List (List ℕ)) (index : ℕ) : Type 0 where
  pub last : suc index ≡ length records
  pub open_quote : is_closed delimiter (get_or records index []) ≡ false

-- why a text has no records whose quotes are closed
abbrev pub ExplainsOpen : ℕ → List ℕ → CsvError → Type 0
ExplainsOpen delimiter text csv_errors.NoMemory = Unit {0}
ExplainsOpen delimiter text (csv_errors.Open index) =
    (records : List (List ℕ)) × HasRecords delimiter text records × LastIsOpen delimiter records index
ExplainsOpen delimiter text _ = ⊥

-- why records aren't closed
abbrev pub ExplainsClosing : ℕ → List (List ℕ) → CsvError → Type 0
ExplainsClosing delimiter records (csv_errors.Open index) = LastIsOpen delimiter records index
ExplainsClosing delimiter records _ = ⊥

-- Why the records of a text aren't sorted, if nothing was written yet. An allocation or a read failed, one of those
-- that are sorted lacks a column that is asked for, or the quotes of the last one aren't closed.
abbrev pub ExplainsCsv : CsvRequest → List ℕ → CsvError → Type 0
ExplainsCsv r text csv_errors.NoMemory = Unit {0}
ExplainsCsv r text csv_errors.ReadFailed = Unit {0}
ExplainsCsv r text (csv_errors.Lacks index column) =
    (records : List (List ℕ)) × HasRecords r.delimiter (strip_bom text) records × SomeLacks r (body_of r.has_header records) column
ExplainsCsv r text (csv_errors.Open index) = ExplainsOpen r.delimiter (strip_bom text) (csv_errors.Open index)
ExplainsCsv r text _ = ⊥
