-- Texts are read by the tables of rules as the rules say (UTS #10, "Produce Collation Element Arrays"; UTS #35 part 5,
-- "Collation Tailorings").
use Rattle.std.specs.Prelude.{ℕ, ◌≡◌, false, List, map}
use Rattle.std.specs.List.{AllByRecursion}
use Rattle.icu_table_provider.specs.Metadata.{has_tailored_diacritics}
use Rattle.icu_table_provider.specs.Tables.{Tables}
use Rattle.icu_table_provider.specs.well_formed.Checked.{checked_tables}
use Rattle.icu_table_provider.specs.well_formed.WellFormedTables.{IsWellFormedTables}
use Rattle.icu_element_reading.specs.TextElements.{non_numeric_reading, elements_of}
use Rattle.icu_rule_parser.specs.declared.rules.PlacedStatement.{PlacedStatement}
use Rattle.icu_rule_root.specs.declared.checked_root.CheckedRoot.{CheckedRoot}
use Rattle.icu_rule_root.specs.StoredRoots.{tables_beside}
use Rattle.icu_rule_meaning.specs.TailoredMappings.{symbolic_elements}
use Rattle.icu_rule_weights.specs.tailoring_numbers.NumberedElements.{numbered_element}
use Rattle.icu_rule_laws.specs.mapped_texts.MappedTexts.{weighted}
use Rattle.icu_rule_tables.specs.StatesByRules.{state_over}
use Rattle.icu_rule_tables.specs.Tailorings.{SaysRules, tailored_tables}
use Rattle.icu_rule_tables.specs.declared.tailoring.Tailoring.{Tailoring}
use Rattle.icu_rule_laws.specs.tailored_texts.TailoredTexts.{HasPlainDiacritics, IsScalarCode}

-- the tables that a root has
abbrev pub tables_of_root : CheckedRoot → Tables
tables_of_root root = (checked_tables (tables_beside root)).tables

-- What is asked of tables that rules make over a root, beside what `SaysRules` says of them. They are accepted, as the
-- tables of each collator are. A mark which stands in the root's table of diacritics, and no more in that of the rules,
-- is mapped so by its entry in the root too.
pub record AreRuledTables (root : CheckedRoot) (t : Tailoring) : Type 0 where
  pub accepted : IsWellFormedTables (tailored_tables t)
  pub plain : HasPlainDiacritics (tables_of_root root) (tailored_tables t).tables

-- So it is of accepted tables if neither these nor the root's have diacritics of their own, by their metadata.
abbrev pub CommonDiacriticsArePlain : CheckedRoot → Type 0
CommonDiacriticsArePlain root = (t : Tailoring) → IsWellFormedTables (tailored_tables t)
    → has_tailored_diacritics (tailored_tables t).bits ≡ false → has_tailored_diacritics (checked_tables (tables_beside root)).bits ≡ false
    → AreRuledTables root t

-- by the tables of rules over a root a decomposed text has the elements that it has by the mappings of the rules, with
-- the numbers of their weights, but for elements without weights
abbrev pub TextsAreReadByRules : CheckedRoot → Type 0
TextsAreReadByRules root = (statements : List PlacedStatement) (t : Tailoring) (says : SaysRules root statements t)
    → AreRuledTables root t
    → (text : List ℕ) → AllByRecursion IsScalarCode text
    → weighted (elements_of (non_numeric_reading (tailored_tables t).tables) text)
    ≡ weighted (map (numbered_element says.numbers) (symbolic_elements (state_over root statements).mappings text))
