-- The conversions between the settings and what a caller passes in or gets back.
use Rattle.std.specs.Prelude.{◌≡◌, Bool, true, false, None, Some, option_map, []}
use Rattle.icu_options.specs.Settings.{Settings}
use Rattle.icu_options.specs.FlaggedSettings.{FlaggedSettings, initial_settings, explicit_or}
use Rattle.icu_options.specs.declared.settings.Strength.TheVariants.{Primary}
use Rattle.icu_options.specs.declared.settings.MaxVariable.TheVariants.{Space}
use Rattle.icu_options.specs.declared.settings.AlternateHandling.TheVariants.{NonIgnorable}
use Rattle.icu_options.specs.declared.settings.CaseLevel.{CaseLevel}
use Rattle.icu_options.specs.declared.settings.CaseLevel.TheVariants.{Off, On}
use Rattle.icu_options.specs.declared.settings.CollationNumericOrdering.{CollationNumericOrdering}
use Rattle.icu_options.specs.declared.settings.CollationNumericOrdering.TheVariants.{False, True}
use Rattle.icu_options.specs.declared.options.CollatorOptions.{CollatorOptions}
use Rattle.icu_options.specs.declared.options.CollatorPreferences.{CollatorPreferences}
use Rattle.icu_options.specs.declared.options.ResolvedCollatorOptions.{ResolvedCollatorOptions}

-- the case level as the settings hold it
abbrev pub is_on : CaseLevel → Bool
is_on Off = false
is_on On = true

-- the case level as a caller gets it back
abbrev pub case_level_of : Bool → CaseLevel
case_level_of false = Off
case_level_of true = On

-- the numeric order as the settings hold it
abbrev pub is_numeric : CollationNumericOrdering → Bool
is_numeric False = false
is_numeric True = true

-- the numeric order as a caller gets it back
abbrev pub numeric_of : Bool → CollationNumericOrdering
numeric_of false = False
numeric_of true = True

-- the settings that options set, and the rest as before any source sets one
abbrev pub settings_of : CollatorOptions → FlaggedSettings
settings_of options =
    record initial_settings {
      strength = explicit_or options.strength Primary;
      max_variable = explicit_or options.max_variable Space;
      alternate_handling = explicit_or options.alternate_handling NonIgnorable;
      case_level = explicit_or (option_map is_on options.case_level) false;
    }

-- the six settings that a caller gets back
abbrev pub resolved_of : Settings → ResolvedCollatorOptions
resolved_of s =
    record {
      strength = s.strength;
      alternate_handling = s.alternate_handling;
      case_first = s.case_first;
      max_variable = s.max_variable;
      case_level = case_level_of s.case_level;
      numeric = numeric_of s.numeric;
    }

-- the options that set nothing
abbrev pub no_options : CollatorOptions
no_options =
    record { strength = None; alternate_handling = None; max_variable = None; case_level = None }

-- the options that set what was resolved
abbrev pub options_of : ResolvedCollatorOptions → CollatorOptions
options_of r =
    record {
      strength = Some r.strength;
      alternate_handling = Some r.alternate_handling;
      max_variable = Some r.max_variable;
      case_level = Some r.case_level;
    }

-- the preferences set what was resolved, and no language
pub record ArePreferencesOf (r : ResolvedCollatorOptions) (p : CollatorPreferences) : Type 0 where
  pub locale : p.locale.now ≡ []
  pub collation_type : p.collation_type ≡ None
  pub case_first : p.case_first ≡ Some r.case_first
  pub numeric_ordering : p.numeric_ordering ≡ Some r.numeric

-- the preferences set nothing, and no language
pub record SetNothing (p : CollatorPreferences) : Type 0 where
  pub locale : p.locale.now ≡ []
  pub collation_type : p.collation_type ≡ None
  pub case_first : p.case_first ≡ None
  pub numeric_ordering : p.numeric_ordering ≡ None
