-- The records of a text of CSV, each with its own bytes (RFC 4180, section 2).
use Rattle.std.specs.Prelude.{◌≡◌, ◌≢◌, ℕ, ◌==◌, Bool, true, false, List, [], ◌∷◌, Some, None, if◌then◌else◌}
use Rattle.line_sorts.specs.csv_records.RecordPlaces.{behind_byte, ends_line}
use Rattle.line_sorts.specs.declared.csv_records.record_place.RecordPlace.{RecordPlace}
use Rattle.line_sorts.specs.declared.csv_records.record_place.RecordPlace.TheVariants.{FieldStart, Unquoted, Quoted, QuoteBehind}

-- a text without the line ends with which it begins: an empty line is no record
abbrev pub past_line_ends : List ℕ → List ℕ
past_line_ends [] = []
past_line_ends (b ∷ bs) = if ends_line b then past_line_ends bs else b ∷ bs

-- what the byte that ends a record leaves of itself in it: a carriage return belongs to the record, a line feed doesn't
abbrev pub record_end : ℕ → List ℕ
record_end b = if b == 13 then b ∷ [] else []

-- the bytes of a record from a place on, without the line feed that ends it
abbrev pub record_from : ℕ → RecordPlace → List ℕ → List ℕ
record_from delimiter place [] = []
record_from delimiter place (b ∷ bs) = elim (behind_byte delimiter place b) [
  | None ↦ record_end b
  | Some next ↦ b ∷ record_from delimiter next bs
]

-- what stands behind a record, from a place in it on
abbrev pub behind_from : ℕ → RecordPlace → List ℕ → List ℕ
behind_from delimiter place [] = []
behind_from delimiter place (b ∷ bs) = elim (behind_byte delimiter place b) [
  | None ↦ bs
  | Some next ↦ behind_from delimiter next bs
]

-- a text has these records, one behind another, and line ends before and behind them
unfoldable pub HasRecords : ℕ → List ℕ → List (List ℕ) → Type 0
HasRecords delimiter text [] = past_line_ends text ≡ []
HasRecords delimiter text (record_bytes ∷ rest) =
    (past_line_ends text ≢ [])
    × (record_bytes ≡ record_from delimiter FieldStart (past_line_ends text))
    × HasRecords delimiter (behind_from delimiter FieldStart (past_line_ends text)) rest

-- the place behind bytes, unless one ends the record
abbrev pub place_behind_bytes : ℕ → RecordPlace → List ℕ → RecordPlace
place_behind_bytes delimiter place [] = place
place_behind_bytes delimiter place (b ∷ bs) = elim (behind_byte delimiter place b) [
  | None ↦ place
  | Some next ↦ place_behind_bytes delimiter next bs
]

-- behind this place no quote is open
abbrev pub is_outside : RecordPlace → Bool
is_outside Quoted = false
is_outside FieldStart = true
is_outside Unquoted = true
is_outside QuoteBehind = true

-- the quotes of a record are closed
abbrev pub is_closed : ℕ → List ℕ → Bool
is_closed delimiter record_bytes = is_outside (place_behind_bytes delimiter FieldStart record_bytes)
