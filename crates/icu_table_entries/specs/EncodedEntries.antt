-- Entries made of what they say: for each kind what `Entries` reads of it, put back in its place.
use Rattle.std.specs.Prelude.{ℕ, ◌+◌, ◌*◌, ◌/◌, ◌%◌, Bool, ◌&&◌, ◌||◌, ◌==◌, nat_lt, if◌then◌else◌}
use Rattle.icu_table_entries.specs.Elements.{Element, common}
use Rattle.icu_table_entries.specs.Entries.{special_low_byte}

-- the element of these weights
abbrev pub of_weights : ℕ → ℕ → ℕ → Element
of_weights primary secondary lower = record { primary = primary; secondary = secondary; lower = lower }

-- the entry of a character whose weight follows from its number
abbrev pub implicit_entry : ℕ
implicit_entry = 0xCF

-- `pppp ss tt`, of two bytes of the primary weight, one of the secondary, one of the lower half
abbrev pub simple_entry : ℕ → ℕ → ℕ → ℕ
simple_entry primary secondary lower = primary * 0x10000 + secondary * 256 + lower

-- `pppp 05 05`, with common weights below
abbrev pub common_entry : ℕ → ℕ
common_entry primary = simple_entry primary 5 5

-- `pppppp C1`, of a primary weight whose last byte is zero
abbrev pub long_primary_entry : ℕ → ℕ
long_primary_entry primary = primary + 0xC1

-- `ssss tt C2`, of a secondary weight and one byte of the lower half
abbrev pub long_secondary_entry : ℕ → ℕ → ℕ
long_secondary_entry secondary lower = secondary * 0x10000 + lower * 256 + 0xC2

-- the entry with a low byte that refers to something by its index
abbrev pub reference_entry : ℕ → ℕ → ℕ
reference_entry low index = index * 8192 + low

-- a list of entries: the index of the first member, and how many there are
abbrev pub entry_list : ℕ → ℕ → ℕ
entry_list index count = reference_entry 0xC5 index + count * 256

-- a list of elements: the index of the first member, and how many there are
abbrev pub element_list : ℕ → ℕ → ℕ
element_list index count = reference_entry 0xC6 index + count * 256

-- a context of the characters before, by its index
abbrev pub prefix_entry : ℕ → ℕ
prefix_entry = reference_entry 0xC8

-- a context of the characters after, by its index
abbrev pub contraction_entry : ℕ → ℕ
contraction_entry = reference_entry 0xC9

-- a digit, by the index of its plain entry
abbrev pub digit_entry : ℕ → ℕ → ℕ
digit_entry digit index = reference_entry 0xCA index + digit * 256

-- an offset, by the index of its data
abbrev pub offset_entry : ℕ → ℕ
offset_entry = reference_entry 0xCE

-- the data of an offset: the weight of the base character, and under it the base, whether the lead byte compresses, and
-- the step
abbrev pub offset_of : ℕ → ℕ → Bool → ℕ → Element
offset_of primary base compressible step =
    let bits = base * 256 + (if compressible then 128 else 0) + step in
    of_weights primary (bits / 0x10000) (bits % 0x10000)

-- `pppp ss tt` can spell the element
abbrev pub fits_simple : Element → Bool
fits_simple x =
    x.primary % 0x10000 == 0 && x.secondary % 256 == 0 && x.lower % 256 == 0 && nat_lt (x.lower / 256) special_low_byte

-- `pppppp C1` can spell it
abbrev pub fits_long_primary : Element → Bool
fits_long_primary x = x.primary % 256 == 0 && x.secondary == common && x.lower == common

-- `ssss tt C2` can spell it
abbrev pub fits_long_secondary : Element → Bool
fits_long_secondary x = x.primary == 0 && x.lower % 256 == 0

-- one entry can spell the element
abbrev pub fits_entry : Element → Bool
fits_entry x = fits_simple x || fits_long_primary x || fits_long_secondary x
