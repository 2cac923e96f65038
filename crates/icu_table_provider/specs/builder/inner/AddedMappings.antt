-- How mappings are added to those of a table.
use Rattle.std.specs.Prelude.{◌≡◌, ℕ, List, ◌++◌, length, All}
use Rattle.icu_table_data.specs.declared.context.ContextMapping.{ContextMapping}
use Rattle.icu_table_data.specs.Contexts.{HasCharsInside, mappings_of}
use Rattle.icu_table_data.specs.Data.{Mapping}

-- mappings and their characters were added that say just this
pub record AddsMappings (mappings : List ContextMapping) (chars : List ℕ) (new_mappings : List ContextMapping) (new_chars : List ℕ) (said : List Mapping) : Type 0 where
  pub more_mappings : List ContextMapping
  pub more_chars : List ℕ
  pub mappings_are : new_mappings ≡ mappings ++ more_mappings
  pub chars_are : new_chars ≡ chars ++ more_chars
  pub inside : All (HasCharsInside (length new_chars)) more_mappings
  pub says : mappings_of new_chars more_mappings ≡ said
