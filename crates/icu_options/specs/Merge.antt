-- The merge of the three sources of settings: the caller's options, the caller's preferences, and
-- the metadata of the tables (UTS #35 part 5, "Setting Options").
use Rattle.std.specs.Prelude.{true, false, unwrap_or, is_some, option_map}
use Rattle.icu_options.specs.Settings.{Settings}
use Rattle.icu_options.specs.FlaggedSettings.{FlaggedSettings, Flags, explicit, initial_settings}
use Rattle.icu_options.specs.Conversions.{is_on, is_numeric}
use Rattle.icu_options.specs.declared.settings.Strength.TheVariants.{Tertiary}
use Rattle.icu_options.specs.declared.options.CollatorOptions.{CollatorOptions}
use Rattle.icu_options.specs.declared.options.CollatorPreferences.{CollatorPreferences}
use Rattle.icu_options.specs.declared.metadata.MetadataSettings.{MetadataSettings}

-- the settings that metadata sets, and the rest as before any source sets one
abbrev pub settings_of_metadata : MetadataSettings → FlaggedSettings
settings_of_metadata metadata =
    record initial_settings {
      max_variable = explicit metadata.max_variable;
      alternate_handling = explicit metadata.alternate_handling;
      case_first = explicit metadata.case_first;
      backward_second_level = explicit metadata.backward_second_level;
    }

-- Each setting by the first source that sets it. Metadata always sets the last variable group,
-- alternate handling and case first, and it alone the backward second level. A strength, a case
-- level and a numeric order that the caller does not set are Tertiary, off and off (UTS #35 part 5, "Setting Options").
abbrev pub merge : CollatorOptions → CollatorPreferences → MetadataSettings → Settings
merge options preferences metadata =
    record {
      strength = unwrap_or options.strength Tertiary;
      max_variable = unwrap_or options.max_variable metadata.max_variable;
      alternate_handling = unwrap_or options.alternate_handling metadata.alternate_handling;
      case_level = unwrap_or (option_map is_on options.case_level) false;
      case_first = unwrap_or preferences.case_first metadata.case_first;
      backward_second_level = metadata.backward_second_level;
      numeric = unwrap_or (option_map is_numeric preferences.numeric_ordering) false;
    }

-- the settings that a source sets: the four of metadata always, and the others where the caller does
abbrev pub merged_flags : CollatorOptions → CollatorPreferences → Flags
merged_flags options preferences =
    record {
      strength = is_some options.strength;
      max_variable = true;
      alternate_handling = true;
      case_level = is_some options.case_level;
      case_first = true;
      backward_second_level = true;
      numeric = is_some preferences.numeric_ordering;
    }
