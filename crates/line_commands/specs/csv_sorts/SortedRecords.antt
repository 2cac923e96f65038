-- What is printed of records that are sorted by columns.
use Rattle.std.specs.Prelude.{◌≡◌, ℕ, ◌-◌, List, ◌++◌, Option, length, take}
use Rattle.std.specs.List.{AllByRecursion}
use Rattle.std.specs.Ordering.{is_eq}
use Rattle.std.specs.Io.KnownBytes.{Keeps}
use Rattle.program_files.specs.PartialWrites.{AppendsBeginning}
use Rattle.csv.specs.Reading.{strip_bom}
use Rattle.line_sorts.specs.csv_records.CsvCuts.{HasRecords}
use Rattle.icu_collator.specs.NameOrders.{IsStablySorted}
use Rattle.icu_order_texts.specs.weighting.Collations.{Collation}
use Rattle.line_sorts.specs.FirstLines.{printed}
use Rattle.line_sorts.specs.InputLines.{ended_lines}
use Rattle.line_commands.specs.csv_sorts.ColumnOrders.{HasColumns, body_of, by_columns, columns_order, header_of}
use Rattle.line_commands.specs.declared.csv_sorts.csv_request.CsvError.{CsvError}
use Rattle.line_commands.specs.declared.csv_sorts.csv_request.CsvError.TheVariants as csv_errors
use Rattle.line_commands.specs.declared.csv_sorts.csv_request.CsvRequest.{CsvRequest}

-- the byte order mark with which a text begins, if it does
abbrev pub front_mark : List ℕ → List ℕ
front_mark text = take (length text - length (strip_bom text)) text

-- The output has the byte order mark and the header of the input, if it has them. Then it has its other records in the
-- order of their columns, which each of them has, with its own bytes and a line feed. Those of which neither comes
-- first stand as they stood; if none is repeated, of those whose columns compare equal the first stands alone.
pub record SortsCsv (c : Collation) (r : CsvRequest) (input output : List ℕ) : Type 0 where
  pub records : List (List ℕ)
  pub cut : HasRecords r.delimiter (strip_bom input) records
  pub complete : AllByRecursion (HasColumns r.delimiter r.columns.now) (body_of r.has_header records)
  pub lines : List (List ℕ)
  pub sorted : IsStablySorted (columns_order c r.delimiter r.columns.now r.direction) (body_of r.has_header records) lines
  pub written : output ≡ front_mark input ++ (ended_lines 10 (header_of r.has_header records)
      ++ ended_lines 10 (printed r.repeats (λ x y. is_eq (by_columns c r.delimiter r.columns.now x y)) lines))

-- nothing was printed, and where a write failed a beginning of such a text
abbrev pub StopsCsv : (List ℕ → Type 0) → Option (List ℕ) → Option (List ℕ) → CsvError → Type 0
StopsCsv is_text old new csv_errors.WriteFailed = (text : List ℕ) × is_text text × AppendsBeginning old new text
StopsCsv is_text old new _ = Keeps old new
