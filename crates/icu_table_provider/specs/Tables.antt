-- What the tables of a collator say together, apart from how they are stored.
use Rattle.std.specs.Prelude.{ℕ, ◌-◌, Bool, ◌&&◌, nat_le, nat_lt, ◌==◌, List, Option, Some, None, if◌then◌else◌, slice_index, length}
use Rattle.icu_table_entries.specs.Entries.{fallback_entry}
use Rattle.icu_table_data.specs.DataConditions.{diacritics_base}
use Rattle.icu_table_data.specs.Data.{Data, HomedEntry, homed}

-- the tables that elements are read from
pub record Tables : Type 0 where
  pub root : Data
  pub tailoring : Option Data
  pub jamo : List ℕ
  pub diacritics : List ℕ

-- the first conjoining jamo
abbrev pub jamo_base : ℕ
jamo_base = 0x1100

-- the first character after the conjoining jamo
abbrev pub jamo_limit : ℕ
jamo_limit = 0x1200

-- a conjoining jamo, which has a table of its own
abbrev pub is_jamo : ℕ → Bool
is_jamo c = nat_le jamo_base c && nat_lt c jamo_limit

-- a tailoring's entry, where it isn't fallback, else the root's (UTS #35 part 5, "Collation Tailorings")
abbrev pub tailored_entry : Data → Data → ℕ → HomedEntry
tailored_entry root tailoring c = if tailoring.value c == fallback_entry then homed root (root.value c) else homed tailoring (tailoring.value c)

-- The entry of a character, with its home: the jamo table's, else the tailoring's, and where there is none, or it is
-- fallback, the root's.
unfoldable pub entry_of : Tables → ℕ → HomedEntry
entry_of tables c =
    if is_jamo c then homed tables.root (slice_index tables.jamo (c - jamo_base))
    else elim tables.tailoring [
      | None ↦ homed tables.root (tables.root.value c)
      | Some tailoring ↦ tailored_entry tables.root tailoring c
    ]

-- the secondary weight of a combining diacritic: the characters from U+0300 on have a table of their own
unfoldable pub diacritic_of : Tables → ℕ → Option ℕ
diacritic_of tables c =
    if nat_le diacritics_base c && nat_lt (c - diacritics_base) (length tables.diacritics) then Some (slice_index tables.diacritics (c - diacritics_base)) else None
