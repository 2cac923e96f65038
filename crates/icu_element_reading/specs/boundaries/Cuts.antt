-- Places where a text may be cut: what stands before them changes nothing of the elements after them, nor the other way
-- round.
use Rattle.std.specs.Prelude.{◌≡◌, ◌<◌, ◌+◌, ◌*◌, ℕ, Bool, true, false, not, ◌&&◌, ◌==◌, List, [], ◌∷◌, if◌then◌else◌, is_some}
use Rattle.unicode_normalization.specs.Order.{is_starter}
use Rattle.icu_table_entries.specs.declared.entry.EntryKind.{EntryKind}
use Rattle.icu_table_entries.specs.declared.entry.EntryKind.TheVariants.{Prefix}
use Rattle.icu_table_entries.specs.Entries.{kind_of}
use Rattle.icu_table_provider.specs.Tables.{Tables, entry_of}
use Rattle.icu_table_provider.specs.well_formed.MappingCharacters.{is_named, is_named_by_tailoring}
use Rattle.icu_element_reading.specs.TextElements.{Reading, continues_number}

-- what stands before the first x
unfoldable pub cut : ℕ → List ℕ → List ℕ
cut x [] = []
cut x (c ∷ cs) = if c == x then [] else c ∷ cut x cs

-- the kind of an entry with prefixes
abbrev pub is_prefix_kind : EntryKind → Bool
is_prefix_kind Prefix = true
is_prefix_kind _ = false

-- the character's own entry has prefixes
abbrev pub has_prefix : Tables → ℕ → Bool
has_prefix tables c = is_prefix_kind (kind_of (entry_of tables c).entry)

-- A boundary: a decomposed text may be cut before the character, whatever stands before and after it.
pub record IsBoundary (reading : Reading) (x : ℕ) : Type 0 where
  pub starter : is_starter x ≡ true
  pub root : is_named x reading.tables.root ≡ false
  pub tailoring : is_named_by_tailoring x reading.tables.tailoring ≡ false
  pub no_prefix : has_prefix reading.tables x ≡ false
  pub no_number : (is_some reading.numeric && continues_number reading.tables x) ≡ false

-- a starter that no mapping names
pub record IsUnnamedStarter (reading : Reading) (c : ℕ) : Type 0 where
  pub starter : is_starter c ≡ true
  pub root : is_named c reading.tables.root ≡ false
  pub tailoring : is_named_by_tailoring c reading.tables.tailoring ≡ false

-- no mapping names a character of a block
abbrev pub IsUnnamedBlock : Reading → ℕ → Type 0
IsUnnamedBlock reading index =
    (k : ℕ) → k < 64 → (is_named (64 * index + k) reading.tables.root ≡ false) × (is_named_by_tailoring (64 * index + k) reading.tables.tailoring ≡ false)

-- the text ends, or its first character doesn't go on a number
abbrev pub ends_run : Tables → List ℕ → Bool
ends_run tables [] = true
ends_run tables (c ∷ cs) = not (continues_number tables c)
