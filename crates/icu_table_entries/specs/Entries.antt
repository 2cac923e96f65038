-- Entries: the 32 bits that a table holds for a character. The low byte says what the rest means.
use Rattle.std.specs.Prelude.{ℕ, ◌*◌, ◌/◌, ◌%◌, ◌^◌, Bool, true, false, ◌==◌, nat_lt, Option, Some, None, List, [], ◌∷◌, if◌then◌else◌}
pub use Rattle.icu_table_entries.specs.declared.entry.EntryKind.{EntryKind}
pub use Rattle.icu_table_entries.specs.declared.entry.EntryKind.TheVariants.{Simple, Fallback, LongPrimary, LongSecondary, Expansion32, Expansion, Prefix, Contraction, Digit, Offset, Implicit, Reserved}
use Rattle.icu_table_entries.specs.declared.entry.Tag as tags
use Rattle.icu_table_entries.specs.Elements.{Element, of_primary}

-- the entry of a tailoring for which the root's stands
abbrev pub fallback_entry : ℕ
fallback_entry = 0xC0

-- the least low byte of an entry that isn't simple
abbrev pub special_low_byte : ℕ
special_low_byte = 0xC0

-- the byte that says what an entry is
abbrev pub low_byte : ℕ → ℕ
low_byte e = e % 256

-- what an entry is, by its low byte
unfoldable pub kind_of : ℕ → EntryKind
kind_of e =
    if nat_lt (low_byte e) special_low_byte then Simple
    else if low_byte e == 0xC0 then Fallback
    else if low_byte e == 0xC1 then LongPrimary
    else if low_byte e == 0xC2 then LongSecondary
    else if low_byte e == 0xC5 then Expansion32
    else if low_byte e == 0xC6 then Expansion
    else if low_byte e == 0xC8 then Prefix
    else if low_byte e == 0xC9 then Contraction
    else if low_byte e == 0xCA then Digit
    else if low_byte e == 0xCE then Offset
    else if low_byte e == 0xCF then Implicit
    else Reserved

-- bits 8 to 12: the length of the list that the entry refers to
abbrev pub list_length : ℕ → ℕ
list_length e = e / 256 % 32

-- bits 8 to 11: the digit that the entry stands for
abbrev pub digit_value : ℕ → ℕ
digit_value e = e / 256 % 16

-- bits 13 to 31: the index of what the entry refers to
abbrev pub entry_index : ℕ → ℕ
entry_index e = e / 8192

-- bit n, from 0
abbrev pub has_bit : ℕ → ℕ → Bool
has_bit n e = e / 2 ^ n % 2 == 1

-- `pppp ss tt`: two bytes of the primary weight, one of the secondary, one of the lower half
abbrev pub simple_element : ℕ → Element
simple_element e = record { primary = e / 0x10000 * 0x10000; secondary = e / 256 % 256 * 256; lower = e % 256 * 256 }

-- `pppppp C1`: three bytes of the primary weight
abbrev pub long_primary_element : ℕ → Element
long_primary_element e = of_primary (e / 256 * 256)

-- `ssss tt C2`: two bytes of the secondary weight, one of the lower half
abbrev pub long_secondary_element : ℕ → Element
long_secondary_element e = record { primary = 0; secondary = e / 0x10000; lower = e / 256 % 256 * 256 }

-- an entry with one element that it spells itself
unfoldable pub is_self_contained : ℕ → Bool
is_self_contained e = elim (kind_of e) [ Simple ↦ true | LongPrimary ↦ true | LongSecondary ↦ true | _ ↦ false ]

-- the element of an entry that is one by itself; none of any other entry
unfoldable pub self_contained : ℕ → List Element
self_contained e =
    elim (kind_of e) [
      | Simple ↦ simple_element e ∷ []
      | LongPrimary ↦ long_primary_element e ∷ []
      | LongSecondary ↦ long_secondary_element e ∷ []
      | _ ↦ []
    ]

-- The four lowest bits, as ICU names them.
unfoldable pub tag_of : ℕ → tags.Tag
tag_of e =
    if e % 16 == 0 then tags.TheVariants.Fallback
    else if e % 16 == 1 then tags.TheVariants.LongPrimary
    else if e % 16 == 2 then tags.TheVariants.LongSecondary
    else if e % 16 == 3 then tags.TheVariants.Reserved3
    else if e % 16 == 4 then tags.TheVariants.LatinExpansion
    else if e % 16 == 5 then tags.TheVariants.Expansion32
    else if e % 16 == 6 then tags.TheVariants.Expansion
    else if e % 16 == 7 then tags.TheVariants.BuilderData
    else if e % 16 == 8 then tags.TheVariants.Prefix
    else if e % 16 == 9 then tags.TheVariants.Contraction
    else if e % 16 == 10 then tags.TheVariants.Digit
    else if e % 16 == 11 then tags.TheVariants.U0000
    else if e % 16 == 12 then tags.TheVariants.Hangul
    else if e % 16 == 13 then tags.TheVariants.LeadSurrogate
    else if e % 16 == 14 then tags.TheVariants.Offset
    else tags.TheVariants.Implicit

-- none for a simple entry
abbrev pub checked_tag : ℕ → Option tags.Tag
checked_tag e = if nat_lt (low_byte e) special_low_byte then None else Some (tag_of e)

-- the element of a simple entry or of a long primary one
abbrev pub simple_or_long_primary : ℕ → Option Element
simple_or_long_primary e =
    if nat_lt (low_byte e) special_low_byte then Some (simple_element e)
    else if low_byte e == 0xC1 then Some (long_primary_element e)
    else None

-- the element of a simple entry, of a long primary one, or of an entry from C0 on whose four lowest bits are those of
-- C2
abbrev pub self_contained_by_tag : ℕ → Option Element
self_contained_by_tag e =
    if nat_lt (low_byte e) special_low_byte then Some (simple_element e)
    else if low_byte e == 0xC1 then Some (long_primary_element e)
    else if e % 16 == 2 then Some (long_secondary_element e)
    else None

-- entries of this kind have the length of a list
abbrev pub names_list : EntryKind → Bool
names_list Expansion32 = true
names_list Expansion = true
names_list _ = false

-- entries of this kind refer to something by its index
abbrev pub has_index : EntryKind → Bool
has_index Expansion32 = true
has_index Expansion = true
has_index Prefix = true
has_index Contraction = true
has_index Digit = true
has_index Offset = true
has_index _ = false

-- the kinds of final entries
abbrev pub is_final : EntryKind → Bool
is_final Fallback = false
is_final Prefix = false
is_final Contraction = false
is_final Digit = false
is_final Reserved = false
is_final _ = true
