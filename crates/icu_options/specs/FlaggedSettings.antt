-- Settings of which some are explicit: a source has set them. Those that are not can still be taken from another
-- source.
use Rattle.std.specs.Prelude.{Bool, true, false, Option, None, Some, if◌then◌else◌}
use Rattle.icu_options.specs.declared.setting.Setting.{Setting}
use Rattle.icu_options.specs.declared.settings.Strength.{Strength}
use Rattle.icu_options.specs.declared.settings.Strength.TheVariants.{Tertiary}
use Rattle.icu_options.specs.declared.settings.MaxVariable.{MaxVariable}
use Rattle.icu_options.specs.declared.settings.MaxVariable.TheVariants.{Space}
use Rattle.icu_options.specs.declared.settings.AlternateHandling.{AlternateHandling}
use Rattle.icu_options.specs.declared.settings.AlternateHandling.TheVariants.{NonIgnorable}
use Rattle.icu_options.specs.declared.settings.CollationCaseFirst.{CollationCaseFirst}
use Rattle.icu_options.specs.declared.settings.CollationCaseFirst.TheVariants.{False}
use Rattle.icu_options.specs.Settings.{Settings}

-- seven settings, each with a value and a flag that says whether a source has set it
pub record FlaggedSettings : Type 0 where
  pub strength : Setting Strength
  pub max_variable : Setting MaxVariable
  pub alternate_handling : Setting AlternateHandling
  pub case_level : Setting Bool
  pub case_first : Setting CollationCaseFirst
  pub backward_second_level : Setting Bool
  pub numeric : Setting Bool

-- the seven values
abbrev pub values_of : FlaggedSettings → Settings
values_of s =
    record {
      strength = s.strength.value;
      max_variable = s.max_variable.value;
      alternate_handling = s.alternate_handling.value;
      case_level = s.case_level.value;
      case_first = s.case_first.value;
      backward_second_level = s.backward_second_level.value;
      numeric = s.numeric.value;
    }

-- which settings are explicit
pub record Flags : Type 0 where
  pub strength : Bool
  pub max_variable : Bool
  pub alternate_handling : Bool
  pub case_level : Bool
  pub case_first : Bool
  pub backward_second_level : Bool
  pub numeric : Bool

-- the seven flags
abbrev pub flags_of : FlaggedSettings → Flags
flags_of s =
    record {
      strength = s.strength.is_explicit;
      max_variable = s.max_variable.is_explicit;
      alternate_handling = s.alternate_handling.is_explicit;
      case_level = s.case_level.is_explicit;
      case_first = s.case_first.is_explicit;
      backward_second_level = s.backward_second_level.is_explicit;
      numeric = s.numeric.is_explicit;
    }

-- a setting that a source has set
abbrev pub explicit : {A : Type 0} → A → Setting A
explicit x = record { value = x; is_explicit = true }

-- a setting that no source has set
abbrev pub unset : {A : Type 0} → A → Setting A
unset x = record { value = x; is_explicit = false }

-- what a source sets, or the value that stands where it sets nothing
abbrev pub explicit_or : {A : Type 0} → Option A → A → Setting A
explicit_or (Some x) _ = explicit x
explicit_or None standing = unset standing

-- the settings before any source sets one: strength Tertiary, each other at its first value
abbrev pub initial_settings : FlaggedSettings
initial_settings =
    record {
      strength = unset Tertiary;
      max_variable = unset Space;
      alternate_handling = unset NonIgnorable;
      case_level = unset false;
      case_first = unset False;
      backward_second_level = unset false;
      numeric = unset false;
    }

-- a setting, if a source has set it, and else another's value and flag
abbrev pub or_default : {A : Type 0} → Setting A → Setting A → Setting A
or_default own other = if own.is_explicit then own else other

-- the settings, with those that no source has set taken from others
abbrev pub with_defaults : FlaggedSettings → FlaggedSettings → FlaggedSettings
with_defaults own others =
    record {
      strength = or_default own.strength others.strength;
      max_variable = or_default own.max_variable others.max_variable;
      alternate_handling = or_default own.alternate_handling others.alternate_handling;
      case_level = or_default own.case_level others.case_level;
      case_first = or_default own.case_first others.case_first;
      backward_second_level = or_default own.backward_second_level others.backward_second_level;
      numeric = or_default own.numeric others.numeric;
    }
