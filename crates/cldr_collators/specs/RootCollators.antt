-- What collators by the root compare by.
use Rattle.std.specs.Prelude.{◌≡◌, false, option_map, unwrap_or}
use Rattle.icu_cldr_root.specs.Roots.{IsRoot}
use Rattle.icu_options.specs.Conversions.{is_numeric, is_on}
use Rattle.icu_options.specs.Settings.{Settings}
use Rattle.icu_options.specs.declared.settings.Strength.{Strength}
use Rattle.icu_options.specs.declared.settings.AlternateHandling.TheVariants.{NonIgnorable}
use Rattle.icu_options.specs.declared.settings.CollationCaseFirst.TheVariants as case_first
use Rattle.icu_options.specs.declared.settings.MaxVariable.TheVariants.{Punctuation}
use Rattle.icu_order_texts.specs.Collations.{Collation}
use Rattle.cldr_languages.specs.declared.language_options.LanguageOptions.{LanguageOptions}

-- the settings that were chosen, at a strength, and those of the root where none was
abbrev pub chosen_settings : LanguageOptions → Strength → Settings
chosen_settings chosen strength = record {
  strength = strength;
  max_variable = unwrap_or chosen.max_variable Punctuation;
  alternate_handling = unwrap_or chosen.alternate_handling NonIgnorable;
  case_level = unwrap_or (option_map is_on chosen.case_level) false;
  case_first = unwrap_or chosen.case_first case_first.False;
  backward_second_level = false;
  numeric = unwrap_or (option_map is_numeric chosen.numeric) false;
}

-- texts are compared by the tables of a root, with the chosen settings
pub record ComparesAs (chosen : LanguageOptions) (strength : Strength) (c : Collation) : Type 0 where
  pub root : IsRoot c.tables
  pub settings : c.settings ≡ chosen_settings chosen strength
