-- The conditions on one entry by itself, each in one word.
use Rattle.std.specs.Prelude.{ℕ, ◌+◌, ◌/◌, ◌%◌, Bool, true, false, ◌&&◌, ◌==◌, nat_le, nat_lt}
use Rattle.icu_table_entries.specs.Elements.{Element}
use Rattle.icu_table_entries.specs.Entries.{EntryKind, Fallback, Prefix, Contraction, Digit, Reserved, kind_of, list_length, entry_index, digit_value}
use Rattle.icu_table_entries.specs.Weights.{least_second_byte, second_bytes, lead_at, offset_base, offset_compressible, offset_ordinal}

-- the list that an entry refers to has a member, and lies inside one of this length
abbrev pub is_listed : ℕ → ℕ → Bool
is_listed e len = nat_lt 0 (list_length e) && nat_le (entry_index e + list_length e) len

-- a prefix may lead to entries of this kind
abbrev pub may_follow_prefix : EntryKind → Bool
may_follow_prefix Prefix = false
may_follow_prefix _ = true

-- a contraction may lead to entries of this kind
abbrev pub may_follow_contraction : EntryKind → Bool
may_follow_contraction Prefix = false
may_follow_contraction Contraction = false
may_follow_contraction _ = true

-- a digit entry's digit is one
unfoldable pub has_digit : ℕ → Bool
has_digit e = elim (kind_of e) [ Digit ↦ nat_le (digit_value e) 9 | _ ↦ true ]

-- the low byte has a meaning where fallback has none
unfoldable pub has_known_byte : ℕ → Bool
has_known_byte e = elim (kind_of e) [ Fallback ↦ false | Reserved ↦ false | _ ↦ true ]

-- The weight of a character by offset data is one of three bytes: the character isn't before the base, the data's
-- weight is such a weight, and the lead byte that the ordinal comes to is a byte.
abbrev pub is_three_byte_weight : Bool → ℕ → Bool
is_three_byte_weight compressible p =
    nat_le (least_second_byte compressible) (p / 0x10000 % 256)
    && nat_lt (p / 0x10000 % 256) (least_second_byte compressible + second_bytes compressible)
    && nat_le 2 (p / 0x100 % 256)
    && p % 256 == 0

-- the character has a weight by these data of an offset
unfoldable pub has_offset_weight : Element → ℕ → Bool
has_offset_weight d c =
    nat_le (offset_base d) c
    && is_three_byte_weight (offset_compressible d) d.primary
    && nat_lt (lead_at (offset_compressible d) (offset_ordinal d c)) 256
