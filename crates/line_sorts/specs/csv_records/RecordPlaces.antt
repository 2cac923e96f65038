-- Where the bytes of a record of CSV stand (RFC 4180, section 2).
use Rattle.std.specs.Prelude.{ℕ, ◌==◌, ◌||◌, Bool, Option, Some, None, if◌then◌else◌}
use Rattle.line_sorts.specs.declared.csv_records.record_place.RecordPlace.{RecordPlace}
use Rattle.line_sorts.specs.declared.csv_records.record_place.RecordPlace.TheVariants.{FieldStart, Unquoted, Quoted, QuoteBehind}

-- a carriage return or a line feed
abbrev pub ends_line : ℕ → Bool
ends_line b = b == 13 || b == 10

-- behind a byte that stands in no quotes; nothing where it ends the record
abbrev pub behind_unquoted : ℕ → ℕ → Option RecordPlace
behind_unquoted delimiter b =
    if b == delimiter then Some FieldStart else if ends_line b then None else Some Unquoted

-- behind a byte of a record; nothing where it ends the record. A quote begins a field between quotes, ends it, or is a
-- quote of that field where a second one follows
abbrev pub behind_byte : ℕ → RecordPlace → ℕ → Option RecordPlace
behind_byte delimiter FieldStart b = if b == 34 then Some Quoted else behind_unquoted delimiter b
behind_byte delimiter Unquoted b = behind_unquoted delimiter b
behind_byte delimiter Quoted b = if b == 34 then Some QuoteBehind else Some Quoted
behind_byte delimiter QuoteBehind b = if b == 34 then Some Quoted else behind_unquoted delimiter b
