-- Primary weights that are computed from a character.
use Rattle.std.specs.Prelude.{ℕ, ◌+◌, ◌-◌, ◌*◌, ◌/◌, ◌%◌, Bool, ◌==◌, if◌then◌else◌}
use Rattle.icu_table_entries.specs.Elements.{Element, of_primary}

-- four bytes as a weight
abbrev pub weight : ℕ → ℕ → ℕ → ℕ → ℕ
weight b1 b2 b3 b4 = b1 * 0x1000000 + b2 * 0x10000 + b3 * 0x100 + b4

-- Implicit weights (UTS #10, "Implicit Weights"): lead byte FE, and three bytes that count up with the character. The
-- second has 251 values from 4, the third 254 from 2, the fourth 18 from 2 in steps of 14. U+0000 comes second.
unfoldable pub implicit_weight : ℕ → ℕ
implicit_weight c =
    let n = c + 1 in weight 0xFE (4 + n / 4572 % 251) (2 + n / 18 % 254) (2 + 14 * (n % 18))

-- how many second bytes there are: a lead byte whose weights compress keeps some of them free
abbrev pub second_bytes : Bool → ℕ
second_bytes compressible = if compressible then 251 else 254

-- the least second byte
abbrev pub least_second_byte : Bool → ℕ
least_second_byte compressible = if compressible then 4 else 2

-- the ordinal of a weight of three bytes among all of them
unfoldable pub ordinal_of : Bool → ℕ → ℕ → ℕ → ℕ
ordinal_of compressible b1 b2 b3 =
    (b1 * second_bytes compressible + b2 - least_second_byte compressible) * 254 + b3 - 2

-- the lead byte of the weight with an ordinal
abbrev pub lead_at : Bool → ℕ → ℕ
lead_at compressible place = place / 254 / second_bytes compressible

-- its second byte
abbrev pub second_at : Bool → ℕ → ℕ
second_at compressible place = place / 254 % second_bytes compressible + least_second_byte compressible

-- its third byte
abbrev pub third_at : ℕ → ℕ
third_at place = place % 254 + 2

-- the weight of three bytes with an ordinal
unfoldable pub weight_at : Bool → ℕ → ℕ
weight_at compressible place = weight (lead_at compressible place) (second_at compressible place) (third_at place) 0

-- An offset entry's data are 64 bits: a primary weight, and under it a base character in bits 8 to 31, bit 7 for a
-- compressible lead, and a step in bits 0 to 6. A character has the weight whose ordinal is `step` more than the data's
-- for each character that it is past the base.
abbrev pub offset_data : Element → ℕ
offset_data d = d.secondary * 0x10000 + d.lower

-- the character from which the data count
abbrev pub offset_base : Element → ℕ
offset_base d = offset_data d / 256

-- whether the lead byte of the weights compresses
abbrev pub offset_compressible : Element → Bool
offset_compressible d = offset_data d / 128 % 2 == 1

-- how many ordinals it is from one character's weight to the next one's
abbrev pub offset_step : Element → ℕ
offset_step d = offset_data d % 128

-- the ordinal of a weight of three bytes
abbrev pub ordinal_of_weight : Bool → ℕ → ℕ
ordinal_of_weight compressible p = ordinal_of compressible (p / 0x1000000) (p / 0x10000 % 256) (p / 0x100 % 256)

-- the ordinal of a character's weight
unfoldable pub offset_ordinal : Element → ℕ → ℕ
offset_ordinal d c = ordinal_of_weight (offset_compressible d) d.primary + (c - offset_base d) * offset_step d

-- a character's weight
unfoldable pub offset_weight : Element → ℕ → ℕ
offset_weight d c = weight_at (offset_compressible d) (offset_ordinal d c)

-- a character's element: that weight, with common weights below
abbrev pub offset_element : Element → ℕ → Element
offset_element d c = of_primary (offset_weight d c)
