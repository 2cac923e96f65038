-- Small tables: a root with two letters and a contraction, a mark, and implicit weights for all else.
use Rattle.std.specs.Prelude.{◌≡◌, ℕ, ◌<◌, ◌≤◌, ◌==◌, [], ◌∷◌, None, replicate, if◌then◌else◌}
use Rattle.icu_table_entries.specs.EncodedEntries.{common_entry, contraction_entry, implicit_entry}
use Rattle.icu_table_data.specs.Data.{Context, Data}
use Rattle.icu_table_provider.specs.builder.Building.{SaysOfCharacters}
use Rattle.icu_table_provider.specs.CollatorTables.{CollatorTables}
use Rattle.icu_table_provider.specs.Tables.{Tables}
use Rattle.icu_table_check.specs.declared.small_tables.small_root.TheConstants.{LETTER_B}

-- the entry of "a": its primary weight is one byte
abbrev pub letter_a : ℕ
letter_a = common_entry 0x2900

-- that of "b"
abbrev pub letter_b : ℕ
letter_b = common_entry LETTER_B

-- that of "a" with a grave, U+0300
abbrev pub letter_a_grave : ℕ
letter_a_grave = common_entry 0x2B00

-- the secondary weight of the grave, a mark of combining class 230
abbrev pub grave : ℕ
grave = 0x8800

-- the entry of a character that contracts by context 0
abbrev pub entry_of_a : ℕ
entry_of_a = contraction_entry 0

-- "a", and "a" before a grave
abbrev pub context_of_a : Context
context_of_a = record { default = letter_a; mappings = record { chars = 0x300 ∷ []; entry = letter_a_grave } ∷ [] }

-- "a" contracts, "b" is a letter, and all other characters have implicit weights
abbrev pub small_entry : ℕ → ℕ
small_entry c = if c == 0x61 then entry_of_a else if c == 0x62 then letter_b else implicit_entry

-- the root of these entries
abbrev pub small_root : Data
small_root = record { value = small_entry; elements = []; entries = []; contexts = context_of_a ∷ [] }

-- A root, without a tailoring; jamo have implicit weights, and the grave is the only diacritic.
abbrev pub tables_with : Data → Tables
tables_with root = record { root = root; tailoring = None; jamo = replicate 256 implicit_entry; diacritics = grave ∷ [] }

-- These tables together: no weight is below the ends of the variable groups, numbers have this lead byte, and bit 4 of
-- the metadata says that there are fewer diacritics than 79.
abbrev pub with_root : ℕ → Data → CollatorTables
with_root numeric root = record {
  tables = tables_with root;
  special = record { last = 1 ∷ 1 ∷ 1 ∷ 1 ∷ []; numeric = numeric };
  bits = 0x10;
  reordering = None;
}

-- a lead byte below those of the letters
pub record IsLowLead (numeric : ℕ) : Type 0 where
  pub low : 3 ≤ numeric
  pub high : numeric < 0x29

-- the small tables, whose numbers have this lead byte
abbrev pub small_tables : ℕ → CollatorTables
small_tables numeric = with_root numeric small_root

-- tables that say what the small tables say, of characters
pub record AreSmallTables (all : CollatorTables) : Type 0 where
  pub numeric : IsLowLead all.special.numeric
  pub root : SaysOfCharacters small_root all.tables.root
  pub others : all ≡ with_root all.special.numeric all.tables.root
