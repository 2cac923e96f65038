-- The conditions on one entry of a root or a tailoring, each in one word over the entry, its home and, where it counts,
-- its character.
use Rattle.std.specs.Prelude.{ℕ, ◌+◌, Bool, true, not, ◌&&◌, nat_le, nat_lt, List, length}
use Rattle.std.specs.List.{list_all}
use Rattle.icu_table_entries.specs.declared.entry.EntryKind.TheVariants.{Expansion32, Expansion, Prefix, Contraction, Digit, Offset}
use Rattle.icu_table_entries.specs.Entries.{kind_of, entry_index, is_self_contained}
use Rattle.icu_table_data.specs.Data.{Mapping, Data, homed, context_of, found_data, plain_of}
use Rattle.icu_table_data.specs.Final.{listed}
use Rattle.icu_table_entries.specs.Entries.{is_final}
use Rattle.icu_table_data.specs.Reachable.{named_entries}
use Rattle.icu_table_entries.specs.EntryConditions.{is_listed, may_follow_prefix, may_follow_contraction, has_offset_weight}

-- what the entry refers to is there
unfoldable pub is_inside : Data → ℕ → Bool
is_inside home e =
    elim (kind_of e) [
      | Expansion32 ↦ is_listed e (length home.entries)
      | Expansion ↦ is_listed e (length home.elements)
      | Prefix ↦ nat_lt (entry_index e) (length home.contexts)
      | Contraction ↦ nat_lt (entry_index e) (length home.contexts)
      | Digit ↦ nat_lt (entry_index e) (length home.entries)
      | Offset ↦ nat_lt (entry_index e) (length home.elements)
      | _ ↦ true
    ]

-- a text before a character is read back for two characters
abbrev pub is_short : Mapping → Bool
is_short mapping = nat_le 1 (length mapping.chars) && nat_le (length mapping.chars) 2

-- the mappings of a prefix have one character or two
unfoldable pub has_short_mappings : Data → ℕ → Bool
has_short_mappings home e = elim (kind_of e) [ Prefix ↦ list_all is_short (context_of (homed home e)).mappings | _ ↦ true ]

-- the first diacritic
abbrev pub diacritics_base : ℕ
diacritics_base = 0x300

-- a character among the first diacritics, so many from U+0300 on
abbrev pub is_diacritic : ℕ → ℕ → Bool
is_diacritic count c = nat_le diacritics_base c && nat_lt c (diacritics_base + count)

-- none of the mapping's characters is a diacritic
abbrev pub mapping_avoids : ℕ → Mapping → Bool
mapping_avoids count mapping = list_all (λ c. not (is_diacritic count c)) mapping.chars

-- no character of the mappings of a prefix is a diacritic, whose element no text before it changes
unfoldable pub avoids_diacritics : ℕ → Data → ℕ → Bool
avoids_diacritics count home e =
    elim (kind_of e) [
      | Prefix ↦ list_all (mapping_avoids count) (context_of (homed home e)).mappings
      | _ ↦ true
    ]

-- a prefix may lead to each of these entries: none of them is a prefix
abbrev pub all_may_follow_prefix : List ℕ → Bool
all_may_follow_prefix = list_all (λ e. may_follow_prefix (kind_of e))

-- a contraction may lead to each of these entries: none of them is a prefix or a contraction
abbrev pub all_may_follow_contraction : List ℕ → Bool
all_may_follow_contraction = list_all (λ e. may_follow_contraction (kind_of e))

-- a prefix leads to no prefix, a contraction to neither, and a digit to a final entry
unfoldable pub leads_on : Data → ℕ → Bool
leads_on home e =
    elim (kind_of e) [
      | Prefix ↦ all_may_follow_prefix (named_entries home e)
      | Contraction ↦ all_may_follow_contraction (named_entries home e)
      | Digit ↦ is_final (kind_of (plain_of home e))
      | _ ↦ true
    ]

-- the members of a list of entries have one element each
unfoldable pub has_known_members : Data → ℕ → Bool
has_known_members home e = elim (kind_of e) [ Expansion32 ↦ list_all is_self_contained (listed e home.entries) | _ ↦ true ]

-- the character has a weight by the data that the entry refers to
unfoldable pub fits_offset : Data → ℕ → ℕ → Bool
fits_offset home c e =
    elim (kind_of e) [ Offset ↦ list_all (λ d. has_offset_weight d c) (found_data home e) | _ ↦ true ]

-- the elements of the entry with the character can be read, if it is final
unfoldable pub is_readable : Data → ℕ → ℕ → Bool
is_readable home c e = is_inside home e && has_known_members home e && fits_offset home c e
