-- Which bytes of a line a key is, to be shown.
use Rattle.std.specs.Prelude.{ℕ, ◌-◌, List, [], if◌then◌else◌, length, take}
use Rattle.line_sorts.specs.fields.LineFields.{drop_while, from_place, front_while, is_blank_byte}
use Rattle.line_sorts.specs.fields.NumberKeys.{behind_digits, has_digits, without_first}
use Rattle.line_sorts.specs.declared.fields.field_key.FieldEnds.{FieldEnds}
use Rattle.line_sorts.specs.declared.fields.field_key.FieldKey.{FieldKey}

-- what stands in a line before a key
abbrev pub before_part : FieldEnds → FieldKey → List ℕ → List ℕ
before_part ends k line = take (length line - length (from_place ends k.start line)) line

-- the blanks with which a text begins
abbrev pub blanks_before : List ℕ → List ℕ
blanks_before text = front_while is_blank_byte text

-- the number with which a text begins, behind blanks: nothing if there is no digit
abbrev pub number_part : List ℕ → List ℕ
number_part text =
    let number = drop_while is_blank_byte text in
    let digits = without_first 45 number in
    if has_digits digits then take (length number - length (behind_digits digits)) number else []
