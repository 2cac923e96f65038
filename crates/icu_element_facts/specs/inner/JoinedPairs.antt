-- Two characters that a mapping of the first joins.
use Rattle.std.specs.Prelude.{◌≡◌, ◌≢◌, ℕ, [], ◌∷◌, Some, slice_get}
use Rattle.icu_table_entries.specs.declared.entry.EntryKind.TheVariants.{Digit}
use Rattle.icu_table_entries.specs.Entries.{kind_of}
use Rattle.icu_table_data.specs.Data.{Mapping, Context}
use Rattle.icu_element_facts.specs.Followers.{HasNoBit, JoinsAlone, NoneBeginsWithBoth}

-- a mapping names the character alone, and comes to this entry, which is no digit's
pub record NamesAlone (context : Context) (x entry : ℕ) : Type 0 where
  pub joins : JoinsAlone context x
  pub comes_to : joins.mapping.entry ≡ entry
  pub no_digit : kind_of joins.mapping.entry ≢ Digit

-- the mapping of a context at an index has this character alone, and comes to this entry, which is no digit's
pub record IsMappingOf (context : Context) (index x entry : ℕ) : Type 0 where
  pub mapping : Mapping
  pub at : slice_get context.mappings index ≡ Some mapping
  pub chars : mapping.chars ≡ x ∷ []
  pub comes_to : mapping.entry ≡ entry
  pub no_digit : kind_of mapping.entry ≢ Digit

-- no mapping begins with this character and one that has no bit
abbrev pub AreThirds : Context → ℕ → ℕ → Type 0
AreThirds context x bits = (d : ℕ) → HasNoBit bits d → NoneBeginsWithBoth context.mappings x d
