-- The variants of the test table Mini, each with one thing that Mini lacks.
use Rattle.std.specs.Prelude.{ℕ, true, List, [], ◌∷◌, Some, replicate, slice_set}
use Rattle.icu_table_data.specs.Data.{Mapping, Context, Data}
use Rattle.icu_table_entries.specs.Elements.{common, of_primary}
use Rattle.icu_table_entries.specs.EncodedEntries.{of_weights, simple_entry, common_entry, long_secondary_entry, entry_list, element_list}
use Rattle.icu_table_entries.specs.EncodedEntries.{prefix_entry, contraction_entry, offset_entry, offset_of}
use Rattle.icu_table_provider.specs.MetadataFields.{metadata_bits}
use Rattle.icu_table_mini.specs.Mini.{Contents, mini, mini_fields, mini_root, mini_tailoring, mini_with, special_with}
use Rattle.icu_table_mini.specs.Characters.{run}

-- a mapping of a context
abbrev pub mapping : List ℕ → ℕ → Mapping
mapping chars entry = record { chars = chars; entry = entry }

-- a context
abbrev pub context : ℕ → List Mapping → Context
context default mappings = record { default = default; mappings = mappings }

-- Mini with a tailoring
abbrev pub tailored : Data → Contents
tailored tailoring = record mini { tailoring = Some tailoring; metadata = metadata_bits (record mini_fields { tailored = true }) }

-- Mini where a tailoring gives one character a context
abbrev pub in_context : ℕ → ℕ → Context → Contents
in_context c entry x = tailored (mini_tailoring ((c, entry) ∷ []) [] (x ∷ []))

-- Mini where these characters too have entries of their own
abbrev pub with_more : List (ℕ × ℕ) → Contents
with_more characters = mini_with (mini_root characters [] [])

-- the second level runs from the end
abbrev pub mini_backward : Contents
mini_backward = record mini { metadata = metadata_bits (record mini_fields { backward_second_level = true }) }

-- the dot of U+0307 may be left out
abbrev pub mini_lithuanian : Contents
mini_lithuanian = record mini { metadata = metadata_bits (record mini_fields { lithuanian_dot_above = true }) }

-- "a" with U+030A, a contraction, comes after "z"
abbrev pub mini_a_ring : Contents
mini_a_ring = in_context 0x61 (contraction_entry 0) (context (common_entry 0x6110) (mapping (0x30A ∷ []) (common_entry 0x6210) ∷ []))

-- "ll" is a contraction
abbrev pub mini_double_l : Contents
mini_double_l = in_context 0x6C (contraction_entry 0) (context (common_entry 0x613C) (mapping (0x6C ∷ []) (common_entry 0x613E) ∷ []))

-- "b" after "a", which is its prefix, has a weight of its own
abbrev pub mini_b_after_a : Contents
mini_b_after_a = in_context 0x62 (prefix_entry 0) (context (common_entry 0x6114) (mapping (0x61 ∷ []) (common_entry 0x6112) ∷ []))

-- "a" has two contractions, with U+030A, and with U+0323 and U+030A
abbrev pub mini_two_mappings : Contents
mini_two_mappings = in_context 0x61 (contraction_entry 0) (context (common_entry 0x6110) (
    mapping (0x30A ∷ []) (common_entry 0x6210) ∷ mapping (0x323 ∷ 0x30A ∷ []) (common_entry 0x6230) ∷ []))

-- "c" after "ab", a prefix of two characters, the nearest first, has a weight of its own
abbrev pub mini_c_after_ab : Contents
mini_c_after_ab = in_context 0x63 (prefix_entry 0) (context (common_entry 0x6118) (mapping (0x62 ∷ 0x61 ∷ []) (common_entry 0x611E) ∷ []))

-- U+03B1 and U+03B2 have weights by offset
abbrev pub mini_offset : Contents
mini_offset = tailored (mini_tailoring ((0x3B1, offset_entry 0) ∷ (0x3B2, offset_entry 0) ∷ []) (offset_of 0x7010FE00 0x3B1 true 4 ∷ []) [])

-- Mini with the contraction of "a" and U+030A, where the lead bytes 61 and 62 change places
abbrev pub mini_swapped_leads : Contents
mini_swapped_leads = record mini_a_ring {
  metadata = metadata_bits (record mini_fields { tailored = true; reordering = true });
  reordering = Some (record { limit = 0; leads = slice_set (slice_set (replicate 256 0) 0x61 0x62) 0x62 0x61; ranges = [] });
}

-- the weights with lead byte 61 go two ways, below 6140 to lead byte 90
abbrev pub mini_split_lead : Contents
mini_split_lead = record mini {
  metadata = metadata_bits (record mini_fields { reordering = true });
  reordering = Some (record { limit = 0x62000000; leads = slice_set (run 0 1 256) 0x61 0; ranges = 0x6140002F ∷ [] });
}

-- U+00DF is a list of two entries
abbrev pub mini_sharp_s : Contents
mini_sharp_s = mini_with (mini_root ((0xDF, entry_list 10 2) ∷ []) [] ((common_entry 0x6158) ∷ simple_entry 0x6158 5 6 ∷ []))

-- the entry of U+1100 is a list of two entries of the root
abbrev pub mini_jamo_list : Contents
mini_jamo_list = record (mini_with (mini_root [] [] ((common_entry 0x6510) ∷ (common_entry 0x6690) ∷ []))) { jamo = slice_set mini.jamo 0 (entry_list 10 2) }

-- U+3042 and U+30A2 have elements that differ by the quaternary bits alone
abbrev pub mini_kana : Contents
mini_kana =
    mini_with (mini_root ((0x3042, element_list 0 1) ∷ (0x30A2, element_list 1 1) ∷ []) (of_primary 0x67100000 ∷ of_weights 0x67100000 common 0x0540 ∷ []) [])

-- "$" is a currency with a primary weight above 1B
abbrev pub mini_high_currency : Contents
mini_high_currency = record (with_more ((0x24, (common_entry 0x1E10)) ∷ [])) { special = special_with 0x2000 0x30 }

-- U+034F has a secondary weight and no primary one
abbrev pub mini_secondary_alone : Contents
mini_secondary_alone = with_more ((0x34F, long_secondary_entry 0x9600 5) ∷ [])

-- U+0001 has a tertiary weight and no other
abbrev pub mini_tertiary_alone : Contents
mini_tertiary_alone = with_more ((0x01, simple_entry 0 0 0xBF) ∷ [])
