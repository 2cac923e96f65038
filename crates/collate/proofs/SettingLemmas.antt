-- The settings of a collator by Mini's metadata, where a strength is set and nothing else.
use Rattle.std.proofs.Common.{◌≡◌, false, Option, Some, None, ap, ◌∙◌, unwrap_or, option_map}
use Rattle.icu_options.specs.Settings.{Settings}
use Rattle.icu_options.specs.Conversions.{SetNothing, is_numeric}
use Rattle.icu_options.specs.Merge.{merge}
use Rattle.icu_options.specs.Metadata.{metadata_settings}
use Rattle.icu_options.specs.declared.options.CollatorOptions.{CollatorOptions}
use Rattle.icu_options.specs.declared.options.CollatorPreferences.{CollatorPreferences}
use Rattle.icu_options.specs.declared.settings.Strength.{Strength}
use Rattle.icu_options.specs.declared.settings.AlternateHandling.TheVariants.{NonIgnorable}
use Rattle.icu_options.specs.declared.settings.CollationCaseFirst.{CollationCaseFirst}
use Rattle.icu_options.specs.declared.settings.CollationCaseFirst.TheVariants as case_first
use Rattle.icu_options.specs.declared.settings.CollationNumericOrdering.{CollationNumericOrdering}
use Rattle.icu_options.specs.declared.settings.MaxVariable.TheVariants.{Punctuation}
use Rattle.icu_table_provider.specs.CollatorTables.{CollatorTables}
use Rattle.icu_table_mini.specs.declared.mini.Mini.{Mini}
use Rattle.icu_order_texts.specs.Collations.{Collation}
use Rattle.collate.specs.Answers.{ComparesBy, mini_tables}

-- options that set a strength alone
abbrev pub at_strength : Strength → CollatorOptions
at_strength strength = record { strength = Some strength; alternate_handling = None; max_variable = None; case_level = None }

-- the settings by what the preferences set
settings_by : Strength → Option CollationCaseFirst → Option CollationNumericOrdering → Settings
settings_by strength first numeric = record {
  strength = strength;
  max_variable = Punctuation;
  alternate_handling = NonIgnorable;
  case_level = false;
  case_first = unwrap_or first case_first.False;
  backward_second_level = false;
  numeric = unwrap_or (option_map is_numeric numeric) false;
}

merged : (strength : Strength) (p : CollatorPreferences) → SetNothing p → merge (at_strength strength) p (metadata_settings 1) ≡ settings_by strength None None
unfolding settings_by
merged strength p is =
    ap (λ c. settings_by strength c p.numeric_ordering) is.case_first ∙ ap (λ n. settings_by strength None n) is.numeric_ordering

pub mini-compares : (m : Mini) (strength : Strength) (kept : Collation) (options : CollatorOptions) (p : CollatorPreferences)
    → kept.tables ≡ mini_tables m → options ≡ at_strength strength → SetNothing p → kept.settings ≡ merge options p (metadata_settings kept.tables.bits)
    → ComparesBy strength m kept
unfolding settings_by
mini-compares m strength kept options p is at_this_strength none merged_is = record {
  tables = is;
  settings =
      merged_is ∙ ap (λ (a : CollatorTables). merge options p (metadata_settings a.bits)) is
      ∙ ap (λ o. merge o p (metadata_settings 1)) at_this_strength ∙ merged strength p none;
}
