-- The test table Mini and its variants, as functions: small tables that worked texts are computed by.
use Rattle.std.proofs.Common.{ℕ, ◌+◌, ◌-◌, ◌*◌, ◌/◌, ◌%◌, List, [], ◌∷◌, ◌++◌, Some, None, Bool, true, false, map, if◌then◌else◌, nat_le, ◌==◌, ◌&&◌}
use Rattle.std.specs.List.{range_with_len}
use Rattle.icu_table_entries.specs.Elements.{Element, element_of}
use Rattle.icu_table_data.specs.Data.{Context, Data}
use Rattle.icu_table_provider.specs.Tables.{Tables}
use Rattle.icu_element_reading.specs.TextElements.{Reading}

abbrev between : ℕ → ℕ → ℕ → Bool
between a b c = nat_le a c && nat_le c b

abbrev mini_value : ℕ → ℕ
mini_value c =
    if between 97 122 c then 0x61100505 + 0x40000 * (c - 97)
    else if between 65 90 c then 0x6110059C + 0x40000 * (c - 65)
    else if between 48 57 c then (c - 48) * 8192 + (c - 48) * 256 + 0xCA
    else if c == 32 then 0x03100505
    else if c == 45 then 0x04100505
    else if c == 46 then 0x04200505
    else if c == 0 then 0
    else if c == 0xFFFE then 0x02000505
    else if c == 0xFFFD then 0xFFFD0505
    else if c == 0x24B6 then 0x6110059D
    else 0xCF

abbrev plain_digits : List ℕ
plain_digits = map (λ d. 0x14100505 + 0x40000 * d) (range_with_len 0 10)

abbrev mini_root : Data
mini_root = record { value = mini_value; elements = []; entries = plain_digits; contexts = [] }

abbrev jamo_entry : ℕ → ℕ
jamo_entry i = (0x65 + i / 128) * 0x1000000 + (16 + i % 128) * 0x10000 + 0x505

abbrev mini_jamo : List ℕ
mini_jamo = map jamo_entry (range_with_len 0 256)

abbrev mini_diacritics : List ℕ
mini_diacritics = map (λ i. (0x46 + i) * 256) (range_with_len 0 79)

abbrev by_root : Data → Tables
by_root root = record { root = root; tailoring = None; jamo = mini_jamo; diacritics = mini_diacritics }

abbrev pub mini : Tables
mini = by_root mini_root

-- Mini's root with one more entry, and other lists
abbrev with_root : ℕ → ℕ → List Element → List ℕ → Tables
with_root c entry elements entries =
    by_root (record { value = λ x. if x == c then entry else mini_value x; elements = elements; entries = entries; contexts = [] })

-- Mini with a tailoring of one character
abbrev with_context : ℕ → ℕ → Context → Tables
with_context c entry context = record mini { tailoring = Some (record { value = λ x. if x == c then entry else 0xC0; elements = []; entries = []; contexts = context ∷ [] }) }

-- sharp s as a list of two entries
abbrev pub sharp_s : Tables
sharp_s = with_root 0xDF 0x142C5 [] (plain_digits ++ 0x61580505 ∷ 0x61580506 ∷ [])

-- Hiragana and Katakana a as lists of one element
abbrev pub kana : Tables
kana = with_root 0x3042 0x1C6 (element_of 0x6710000005000500 ∷ []) plain_digits

-- an offset for alpha
abbrev pub offsets : Tables
offsets = record mini { tailoring = Some (record { value = λ x. if between 0x3B1 0x3B2 x then 0xCE else 0xC0; elements = element_of 0x7010FE000003B184 ∷ []; entries = []; contexts = [] }) }

-- the first jamo as a list of the root
abbrev pub long_jamo : Tables
long_jamo = record mini {
  root = record mini_root { entries = plain_digits ++ 0x65100505 ∷ 0x66900505 ∷ [] };
  jamo = 0x142C5 ∷ map jamo_entry (range_with_len 1 255);
}

-- a with a ring above is a letter of its own; the hints of the entry decide nothing
abbrev ring_context : Context
ring_context = record { default = 0x61100505; mappings = record { chars = 0x30A ∷ []; entry = 0x62100505 } ∷ [] }

abbrev pub ring : Tables
ring = with_context 97 0xC9 ring_context

abbrev pub hinted_ring : Tables
hinted_ring = with_context 97 0xEC9 ring_context

-- these tables with a letter for a with a dot below and a ring above
abbrev pub two_marks : Tables
two_marks = with_context 97 0xC9 (record {
  default = 0x61100505;
  mappings = record { chars = 0x30A ∷ []; entry = 0x62100505 } ∷ record { chars = 0x323 ∷ 0x30A ∷ []; entry = 0x62300505 } ∷ [];
})

-- c after "ab" is another letter
abbrev pub prefixed : Tables
prefixed = with_context 99 0xC8 (record { default = 0x61180505; mappings = record { chars = 98 ∷ 97 ∷ []; entry = 0x611E0505 } ∷ [] })

-- "ab" is a letter, and c after it another one
abbrev pub letter_before_prefix : Tables
letter_before_prefix = record mini {
  tailoring = Some (record {
    value = λ x. if x == 97 then 0xC9 else if x == 99 then 0x20C8 else 0xC0;
    elements = [];
    entries = [];
    contexts = record { default = 0x61100505; mappings = record { chars = 98 ∷ []; entry = 0x62100505 } ∷ [] }
        ∷ record { default = 0x61180505; mappings = record { chars = 98 ∷ 97 ∷ []; entry = 0x611E0505 } ∷ [] } ∷ [];
  });
}

abbrev pub numeric : Tables → Reading
numeric tables = record { tables = tables; numeric = Some 0x0F; lithuanian = false }

abbrev pub lithuanian : Tables → Reading
lithuanian tables = record { tables = tables; numeric = None; lithuanian = true }
