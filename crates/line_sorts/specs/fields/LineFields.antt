-- Fields of a line, and the part of a line that is a key (POSIX, "sort", option -k). Characters are those of UTF-8.
use Rattle.std.specs.Prelude.{ℕ, suc, zero, ◌-◌, Bool, ◌&&◌, ◌||◌, ◌==◌, nat_le, not, List, [], ◌∷◌, Option, Some, None, if◌then◌else◌, drop, length, take}
use Rattle.line_sorts.specs.declared.fields.field_key.FieldEnds.{FieldEnds}
use Rattle.line_sorts.specs.declared.fields.field_key.FieldEnds.TheVariants.{AtByte, AtBlanks}
use Rattle.line_sorts.specs.declared.fields.field_key.FieldKey.{FieldKey}
use Rattle.line_sorts.specs.declared.fields.field_key.KeyStop.{KeyStop}
use Rattle.line_sorts.specs.declared.fields.field_key.KeyStop.TheVariants as stops
use Rattle.line_sorts.specs.declared.fields.field_key.KeyPlace.{KeyPlace}

-- bytes from the first one on that fails a test
abbrev pub drop_while : (ℕ → Bool) → List ℕ → List ℕ
drop_while test [] = []
drop_while test (b ∷ bs) = if test b then drop_while test bs else b ∷ bs

-- bytes up to the first one that fails a test
abbrev pub front_while : (ℕ → Bool) → List ℕ → List ℕ
front_while test [] = []
front_while test (b ∷ bs) = if test b then b ∷ front_while test bs else []

-- a space, a tab or a line feed
abbrev pub is_blank_byte : ℕ → Bool
is_blank_byte b = b == 32 || b == 9 || b == 10

-- another byte
abbrev pub is_no_blank : ℕ → Bool
is_no_blank b = not (is_blank_byte b)

-- a byte that goes on a character (Unicode Standard, "Unicode Encoding Forms")
abbrev pub continues_char : ℕ → Bool
continues_char b = nat_le 128 b && nat_le b 191

-- ---- fields

-- a line without its first field, of which nothing is left but what ends it
abbrev pub past_field : FieldEnds → List ℕ → List ℕ
past_field (AtByte end) line = drop_while (λ b. not (b == end)) line
past_field AtBlanks line = drop_while is_no_blank (drop_while is_blank_byte line)

-- a line from its second field on: a byte that ends a field belongs to none, and blanks to the field behind them
abbrev pub next_field : FieldEnds → List ℕ → List ℕ
next_field (AtByte end) line = drop 1 (past_field (AtByte end) line)
next_field AtBlanks line = past_field AtBlanks line

-- a line from a field on, where so many stand before it
abbrev pub from_field : FieldEnds → ℕ → List ℕ → List ℕ
from_field ends zero line = line
from_field ends (suc n) line = from_field ends n (next_field ends line)

-- ---- characters

-- a line without its first character
abbrev pub past_char : List ℕ → List ℕ
past_char [] = []
past_char (b ∷ bs) = drop_while continues_char bs

-- a line without so many characters
abbrev pub past_chars : ℕ → List ℕ → List ℕ
past_chars zero line = line
past_chars (suc n) line = past_chars n (past_char line)

-- a line without blanks at its beginning, where they are to be passed over
abbrev pub past_blanks : Bool → List ℕ → List ℕ
past_blanks skips line = if skips then drop_while is_blank_byte line else line

-- ---- keys

-- a line from a place on: behind so many fields, maybe their blanks, and so many characters
abbrev pub from_place : FieldEnds → KeyPlace → List ℕ → List ℕ
from_place ends p line = past_chars p.chars (past_blanks p.skips_blanks (from_field ends p.fields line))

-- what stands behind a key
abbrev pub behind_key : FieldEnds → KeyStop → List ℕ → List ℕ
behind_key ends stops.LineEnd line = []
behind_key ends (stops.FieldEnd fields) line = past_field ends (from_field ends fields line)
behind_key ends (stops.Place place) line = from_place ends place line

-- the key of a line: from where it begins up to what stands behind it, nothing where it ends before it begins
abbrev pub line_part : FieldEnds → FieldKey → List ℕ → List ℕ
line_part ends k line =
    let from = from_place ends k.start line in
    take (length from - length (behind_key ends k.stop line)) from
