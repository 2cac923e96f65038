-- The characters that mappings of contexts name, as a list that has them all, and perhaps others.
use Rattle.std.specs.Prelude.{◌≡◌, ℕ, Bool, false}
use Rattle.icu_table_provider.specs.Tables.{Tables}
use Rattle.icu_table_provider.specs.well_formed.MappingCharacters.{is_named, is_named_by_tailoring}
use Rattle.icu_table_provider.specs.declared.well_formed.named_characters.NamedCharacters.{NamedCharacters}
use Rattle.icu_table_provider.specs.well_formed.MappingCharacters.{has_character}

-- the list has the character
unfoldable pub may_name : NamedCharacters → ℕ → Bool
may_name n x = has_character x n.chars.items

-- what it doesn't have no mapping of the tables names
pub record NamesAll (n : NamedCharacters) (tables : Tables) : Type 0 where
  pub root : (x : ℕ) → may_name n x ≡ false → is_named x tables.root ≡ false
  pub tailoring : (x : ℕ) → may_name n x ≡ false → is_named_by_tailoring x tables.tailoring ≡ false
