-- Where a text is refused.
use Rattle.std.specs.Prelude.{◌≡◌, ℕ, ◌+◌, ◌≤◌, ◌==◌, ◌&&◌, nat_le, nat_lt, List, [], ◌∷◌, length, take, count_by, Bool, true, false, if◌then◌else◌}
use Rattle.icu_cldr_files.specs.declared.xml.xml_error.Fault.{Fault}
use Rattle.icu_cldr_files.specs.declared.xml.xml_error.Fault.TheVariants as faults
use Rattle.icu_cldr_files.specs.declared.xml.xml_error.XmlError.{XmlError}
use Rattle.icu_cldr_files.specs.declared.xml.xml_error.XmlError.TheVariants as errors

-- a fault is within a text of so many bytes: no more bytes than these stand behind it
abbrev pub IsWithin : ℕ → Fault → Type 0
IsWithin n faults.NoMemory = Unit {0}
IsWithin n (faults.Refused refusal) = refusal.left ≤ n

-- the line, from 1 on, that some bytes lead to
abbrev pub line_behind : List ℕ → ℕ
line_behind bytes = 1 + count_by (λ b. b == 10) bytes

-- a byte of UTF-8 with which a character begins
abbrev pub begins_character : ℕ → Bool
begins_character b = if nat_le 128 b && nat_lt b 192 then false else true

-- the column that a byte leads to from a column: a line feed to the first, the first byte of a character one further
abbrev pub next_column : ℕ → ℕ → ℕ
next_column column b = if b == 10 then 1 else (if begins_character b then column + 1 else column)

-- the column that some bytes lead to from a column
unfoldable pub column_from : ℕ → List ℕ → ℕ
column_from column [] = column
column_from column (b ∷ bytes) = column_from (next_column column b) bytes

-- the column, in characters from 1 on, that some bytes lead to
abbrev pub column_behind : List ℕ → ℕ
column_behind bytes = column_from 1 bytes

-- the place that an error names is one of the text
abbrev pub IsPlaceIn : List ℕ → XmlError → Type 0
IsPlaceIn text errors.NoMemory = Unit {0}
IsPlaceIn text (errors.Refused line column reason) =
    (offset : ℕ) × (offset ≤ length text) × (line ≡ line_behind (take offset text)) × (column ≡ column_behind (take offset text))
