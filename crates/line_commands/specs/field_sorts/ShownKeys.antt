-- Lines with their keys underlined, as `--debug` of GNU sort shows them. A line is bytes in UTF-8 that may be damaged.
use Rattle.std.specs.Prelude.{ℕ, Bool, ◌==◌, false, List, [], ◌∷◌, ◌++◌, chars, codes, if◌then◌else◌, map, replicate}
use Rattle.std.specs.List.{flat_map}
use Rattle.std.specs.Str.Lossy.{utf8_lossy}
use Rattle.unicode_width.specs.Width.{str_width}
use Rattle.line_sorts.specs.fields.LineFields.{line_part}
use Rattle.line_sorts.specs.fields.ShownParts.{before_part, blanks_before, number_part}
use Rattle.line_sorts.specs.declared.fields.field_key.FieldEnds.{FieldEnds}
use Rattle.line_commands.specs.declared.field_sorts.field_sort.FieldOrder.{FieldOrder}
use Rattle.line_commands.specs.declared.field_sorts.field_sort.FieldOrder.TheVariants.{AsText, AsNumber}
use Rattle.line_commands.specs.declared.field_sorts.field_sort.FieldSort.{FieldSort}

-- how many columns bytes take
abbrev pub column_count : List ℕ → ℕ
column_count bytes = str_width false (chars (utf8_lossy bytes))

-- what stands for a key of these columns: that many marks, or that there is nothing
abbrev pub underline : ℕ → List ℕ
underline width = if width == 0 then codes "^ no match for key" else replicate width 95

-- so many spaces as bytes take columns
abbrev pub spaces : List ℕ → List ℕ
spaces bytes = replicate (column_count bytes) 32

-- what underlines a part of a line, with a line feed
abbrev pub marks : List ℕ → List ℕ
marks part = underline (column_count part) ++ 10 ∷ []

-- so the part of a line that is a key: of that of a number the number alone
abbrev pub key_marks : FieldOrder → List ℕ → List ℕ
key_marks AsText part = marks part
key_marks AsNumber part = spaces (blanks_before part) ++ marks (number_part part)

-- so a key of a line
abbrev pub key_line : FieldEnds → FieldSort → List ℕ → List ℕ
key_line ends sort line = spaces (before_part ends sort.part line) ++ key_marks sort.order (line_part ends sort.part line)

-- so the keys of a line
abbrev pub key_lines : FieldEnds → List FieldSort → List ℕ → List ℕ
key_lines ends [] line = []
key_lines ends (sort ∷ sorts) line = key_line ends sort line ++ key_lines ends sorts line

-- a byte as it is shown: > for a tab
abbrev pub shown_byte : ℕ → ℕ
shown_byte b = if b == 9 then 62 else b

-- a line with its keys, and the whole of it if that is a key too
abbrev pub line_with_keys : FieldEnds → List FieldSort → Bool → List ℕ → List ℕ
line_with_keys ends sorts is_whole line =
    map shown_byte line ++ (10 ∷ (key_lines ends sorts line ++ (if is_whole then marks line else [])))

-- lines so
abbrev pub lines_with_keys : FieldEnds → List FieldSort → Bool → List (List ℕ) → List ℕ
lines_with_keys ends sorts is_whole lines = flat_map (line_with_keys ends sorts is_whole) lines
