-- Collations that worked texts are compared by: settings, with the test table Mini or one of its variants, and all
-- other tables.
use Rattle.std.proofs.Common.{ℕ, true, false, ◌==◌, List, [], ◌∷◌, map, Some, None, if◌then◌else◌}
use Rattle.std.specs.List.{range_with_len}
use Rattle.icu_options.specs.Settings.{Settings}
use Rattle.icu_options.specs.declared.settings.Strength.{Strength}
use Rattle.icu_options.specs.declared.settings.AlternateHandling.TheVariants.{NonIgnorable, Shifted, Blanked}
use Rattle.icu_options.specs.declared.settings.CollationCaseFirst.TheVariants.{False, Upper}
use Rattle.icu_options.specs.declared.settings.MaxVariable.TheVariants.{Punctuation, Currency}
use Rattle.icu_table_entries.specs.Elements.{Element, element_of}
use Rattle.icu_table_data.specs.Data.{Context}
use Rattle.icu_table_provider.specs.Tables.{Tables}
use Rattle.icu_table_provider.specs.CollatorTables.{CollatorTables}
use Rattle.icu_element_reading.proofs.WorkedReadings.{mini as mini_tables, ring, offsets}
use Rattle.icu_order_texts.specs.weighting.Collations.{Collation}

-- ---- settings, with tables

-- the defaults, at a strength
abbrev defaults : Strength → Settings
defaults s = record {
  strength = s;
  max_variable = Punctuation;
  alternate_handling = NonIgnorable;
  case_level = false;
  case_first = False;
  backward_second_level = false;
  numeric = false;
}

module _ (s : Strength) (all : CollatorTables) where
  abbrev pub plain_at : Collation
  plain_at = record { tables = all; settings = defaults s }

  abbrev pub shifted_at : Collation
  shifted_at = record { tables = all; settings = record (defaults s) { alternate_handling = Shifted } }

  abbrev pub blanked_at : Collation
  blanked_at = record { tables = all; settings = record (defaults s) { alternate_handling = Blanked } }

  abbrev pub numeric_at : Collation
  numeric_at = record { tables = all; settings = record (defaults s) { numeric = true } }

  abbrev pub upper_first_at : Collation
  upper_first_at = record { tables = all; settings = record (defaults s) { case_first = Upper } }

  abbrev pub case_level_at : Collation
  case_level_at = record { tables = all; settings = record (defaults s) { case_level = true } }

  abbrev pub upper_case_level_at : Collation
  upper_case_level_at = record { tables = all; settings = record (defaults s) { case_level = true; case_first = Upper } }

  abbrev pub currency_shifted_at : Collation
  currency_shifted_at = record { tables = all; settings = record (defaults s) { alternate_handling = Shifted; max_variable = Currency } }

-- ---- tables

abbrev with_bits : ℕ → Tables → CollatorTables
with_bits bits tables = record {
  tables = tables;
  special = record { last = 0x0400 ∷ 0x0600 ∷ 0x0900 ∷ 0x0E00 ∷ []; numeric = 0x0F };
  bits = bits;
  reordering = None;
}

abbrev pub mini : CollatorTables
mini = with_bits 0x01 mini_tables

-- the secondary level is compared from the end
abbrev pub backward : CollatorTables
backward = with_bits 0x81 mini_tables

-- a dot above before another mark above is silent
abbrev pub lithuanian : CollatorTables
lithuanian = with_bits 0x41 mini_tables

-- Mini's root with other entries, and its lists of elements
abbrev with_root : (ℕ → ℕ) → List Element → Tables
with_root value elements = record mini_tables { root = record mini_tables.root { value = value; elements = elements } }

abbrev with_entry : ℕ → ℕ → Tables
with_entry c entry = with_root (λ x. if x == c then entry else mini_tables.root.value x) []

-- Mini with a tailoring of one character
abbrev with_context : ℕ → ℕ → Context → Tables
with_context c entry context =
    record mini_tables { tailoring = Some (record { value = λ x. if x == c then entry else 0xC0; elements = []; entries = []; contexts = context ∷ [] }) }

-- "ll" is a letter of its own
abbrev pub spanish : CollatorTables
spanish = with_bits 0x09 (with_context 108 0xC9 (record { default = 0x613C0505; mappings = record { chars = 108 ∷ []; entry = 0x613E0505 } ∷ [] }))

-- b after a is another letter
abbrev pub prefixed : CollatorTables
prefixed = with_bits 0x09 (with_context 98 0xC8 (record { default = 0x61140505; mappings = record { chars = 97 ∷ []; entry = 0x61120505 } ∷ [] }))

-- offsets for alpha and beta
abbrev pub greek : CollatorTables
greek = with_bits 0x09 offsets

-- Hiragana and Katakana a differ in their quaternary bits
abbrev pub kana : CollatorTables
kana =
    with_bits 0x01 (with_root (λ x. if x == 0x3042 then 0x1C6 else if x == 0x30A2 then 0x21C6 else mini_tables.root.value x)
    (element_of 0x6710000005000500 ∷ element_of 0x6710000005000540 ∷ []))

-- U+0001 has a tertiary alone
abbrev pub with_tertiary : CollatorTables
with_tertiary = with_bits 0x01 (with_entry 1 0xBF)

-- U+034F has a secondary and no primary
abbrev pub with_secondary : CollatorTables
with_secondary = with_bits 0x01 (with_entry 0x34F 0x960005C2)

-- a currency sign whose primary leads with 1E
abbrev pub high_currency : CollatorTables
high_currency = record (with_bits 0x01 (with_entry 36 0x1E100505)) { special = record { last = 0x0400 ∷ 0x0600 ∷ 0x0900 ∷ 0x2000 ∷ []; numeric = 0x30 } }

-- lead bytes 61 and 62 change places, and a with a ring above is a letter of its own
abbrev pub swapped : CollatorTables
swapped = record (with_bits 0x29 ring) {
  reordering = Some (record { limit = 0; leads = map (λ b. if b == 0x61 then 0x62 else if b == 0x62 then 0x61 else 0) (range_with_len 0 256); ranges = [] });
}

-- of lead byte 61 what lies below 6140 goes to lead byte 90
abbrev pub split : CollatorTables
split = record (with_bits 0x21 mini_tables) {
  reordering = Some (record { limit = 0x62000000; leads = map (λ b. if b == 0x61 then 0 else b) (range_with_len 0 256); ranges = 0x6140002F ∷ [] });
}
