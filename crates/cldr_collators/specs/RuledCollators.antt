-- What collators by rules compare by.
use Rattle.std.specs.Prelude.{◌≡◌, List, Some, Ok}
use Rattle.icu_options.specs.Merge.{merge}
use Rattle.icu_options.specs.Metadata.{metadata_settings}
use Rattle.icu_options.specs.declared.options.CollatorOptions.{CollatorOptions}
use Rattle.icu_options.specs.declared.options.CollatorPreferences.{CollatorPreferences}
use Rattle.icu_options.specs.declared.settings.Strength.{Strength}
use Rattle.icu_table_provider.specs.CollatorTables.{CollatorTables}
use Rattle.icu_table_provider.specs.TableSets.{loads_of}
use Rattle.icu_rule_root.specs.declared.checked_root.CheckedRoot.{CheckedRoot}
use Rattle.icu_rule_root.specs.CheckedRoots.{IsRootOf}
use Rattle.icu_rule_root.specs.StoredRoots.{stored_root}
use Rattle.icu_rule_parser.specs.declared.rules.PlacedStatement.{PlacedStatement}
use Rattle.icu_rule_tables.specs.Tailorings.{SaysRules, tailored_tables}
use Rattle.icu_rule_tables.specs.declared.tailoring.Tailoring.{Tailoring}
use Rattle.icu_collator.specs.Collators.{loaded_for, settings_kept, tables_kept}
use Rattle.icu_collator.specs.declared.collator.Collator.{Collator}
use Rattle.cldr_languages.specs.declared.language_options.LanguageOptions.{LanguageOptions}

-- what a choice of settings asks of a collator, as options and preferences
pub record AsksFor (chosen : LanguageOptions) (strength : Strength) (options : CollatorOptions) (preferences : CollatorPreferences) : Type 0 where
  pub of_collator : options ≡ record {
    strength = Some strength;
    alternate_handling = chosen.alternate_handling;
    max_variable = chosen.max_variable;
    case_level = chosen.case_level;
  }
  pub case_first : preferences.case_first ≡ chosen.case_first
  pub numeric : preferences.numeric_ordering ≡ chosen.numeric

-- Texts are compared by the tables of a tailoring. Settings are those that were chosen, and else those of its metadata.
pub record ComparesByTables (t : Tailoring) (chosen : LanguageOptions) (strength : Strength) (c : Collator) : Type 0 where
  pub options : CollatorOptions
  pub preferences : CollatorPreferences
  pub asks : AsksFor chosen strength options preferences
  pub tables : loaded_for (loads_of (tailored_tables t)) preferences ≡ Ok (tables_kept c)
  pub settings : settings_kept c ≡ merge options preferences (metadata_settings (tables_kept c).bits)

-- texts are compared by the tables that rules say over the root of these tables
pub record ComparesByRules (tables : CollatorTables) (statements : List PlacedStatement) (chosen : LanguageOptions) (strength : Strength) (c : Collator) : Type 0 where
  pub root : CheckedRoot
  pub is_root : IsRootOf tables (stored_root root)
  pub tailoring : Tailoring
  pub says : SaysRules root statements tailoring
  pub compares : ComparesByTables tailoring chosen strength c
