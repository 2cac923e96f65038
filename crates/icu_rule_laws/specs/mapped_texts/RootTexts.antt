-- Texts are read by a root as by the mappings that it has (UTS #35 part 5, "Root Collation", "Context-Sensitive
-- Mappings").
use Rattle.std.specs.Prelude.{ℕ, ◌≡◌, List, map, None}
use Rattle.std.specs.List.{AllByRecursion}
use Rattle.icu_table_entries.specs.Elements.{Element, of_secondary}
use Rattle.icu_table_data.specs.Data.{Data}
use Rattle.icu_table_provider.specs.Tables.{Tables}
use Rattle.icu_table_provider.specs.well_formed.WellFormedTables.{HasAscendingContexts}
use Rattle.icu_element_reading.specs.TextElements.{non_numeric_reading, elements_of}
use Rattle.icu_rule_root.specs.RootEntries.{entry_elements, root_mappings_of}
use Rattle.icu_rule_meaning.specs.declared.symbolic.SymbolicElement.{SymbolicElement}
use Rattle.icu_rule_meaning.specs.SymbolicElements.{of_root}
use Rattle.icu_rule_meaning.specs.TailoredMappings.{SymbolicMappings, mapping_of_root, symbolic_elements}
use Rattle.icu_rule_laws.specs.mapped_texts.MappedTexts.{weighted}

-- numbers give back an element of the root
abbrev pub GivesBack : (SymbolicElement → Element) → Element → Type 0
GivesBack number x = number (of_root x) ≡ x

-- numbers give back the elements that entries of a table have, and those of diacritics
pub record GivesBackElements (number : SymbolicElement → Element) (home : Data) : Type 0 where
  pub entries : (c e : ℕ) → AllByRecursion (GivesBack number) (entry_elements home c e)
  pub diacritics : (secondary : ℕ) → GivesBack number (of_secondary secondary)

-- the mappings of characters that the root of tables has
abbrev pub mappings_of_root : Tables → SymbolicMappings
mappings_of_root tables c = map mapping_of_root (root_mappings_of tables c)

-- by the tables of a root, without a tailoring, a decomposed text has the elements that it has by the root's mappings,
-- but for elements without weights
abbrev pub RootsAreReadByMappings : Type 0
RootsAreReadByMappings = (number : SymbolicElement → Element) (tables : Tables) → tables.tailoring ≡ None
    → HasAscendingContexts tables.root → GivesBackElements number tables.root → (text : List ℕ)
    → weighted (elements_of (non_numeric_reading tables) text)
    ≡ weighted (map number (symbolic_elements (mappings_of_root tables) text))
