-- A collator that is made of a root has the chosen settings.
use Rattle.std.proofs.Common.{◌≡◌, false, Option, Some, ap, ◌∙◌, unwrap_or, option_map}
use Rattle.icu_cldr_root.specs.Roots.{IsRoot}
use Rattle.icu_options.specs.Conversions.{is_numeric, is_on}
use Rattle.icu_options.specs.Merge.{merge}
use Rattle.icu_options.specs.Metadata.{metadata_settings}
use Rattle.icu_options.specs.Settings.{Settings}
use Rattle.icu_options.specs.declared.options.CollatorOptions.{CollatorOptions}
use Rattle.icu_options.specs.declared.options.CollatorPreferences.{CollatorPreferences}
use Rattle.icu_options.specs.declared.settings.AlternateHandling.TheVariants.{NonIgnorable}
use Rattle.icu_options.specs.declared.settings.CollationCaseFirst.{CollationCaseFirst}
use Rattle.icu_options.specs.declared.settings.CollationCaseFirst.TheVariants as case_first
use Rattle.icu_options.specs.declared.settings.CollationNumericOrdering.{CollationNumericOrdering}
use Rattle.icu_options.specs.declared.settings.MaxVariable.TheVariants.{Punctuation}
use Rattle.icu_options.specs.declared.settings.Strength.{Strength}
use Rattle.icu_order_texts.specs.Collations.{Collation}
use Rattle.cldr_collators.specs.RootCollators.{chosen_settings}
use Rattle.cldr_languages.specs.declared.language_options.LanguageOptions.{LanguageOptions}

settings_by : LanguageOptions → Strength → Option CollationCaseFirst → Option CollationNumericOrdering → Settings
settings_by c strength first numeric = record {
  strength = strength;
  max_variable = unwrap_or c.max_variable Punctuation;
  alternate_handling = unwrap_or c.alternate_handling NonIgnorable;
  case_level = unwrap_or (option_map is_on c.case_level) false;
  case_first = unwrap_or first case_first.False;
  backward_second_level = false;
  numeric = unwrap_or (option_map is_numeric numeric) false;
}

pub chosen_merged : (c : LanguageOptions) (strength : Strength) (kept : Collation) (o : CollatorOptions) (p : CollatorPreferences)
    → IsRoot kept.tables
    → o ≡ record { strength = Some strength; alternate_handling = c.alternate_handling; max_variable = c.max_variable; case_level = c.case_level }
    → p.case_first ≡ c.case_first → p.numeric_ordering ≡ c.numeric
    → kept.settings ≡ merge o p (metadata_settings kept.tables.bits)
    → kept.settings ≡ chosen_settings c strength
unfolding settings_by
chosen_merged c strength kept o p root options first numeric merged_is =
    merged_is ∙ ap (λ b. merge o p (metadata_settings b)) root.metadata
    ∙ ap (λ x. merge x p (metadata_settings 1)) options
    ∙ ap (λ x. settings_by c strength x p.numeric_ordering) first
    ∙ ap (λ x. settings_by c strength c.case_first x) numeric
