-- Worked rows of the definitions, computed.
use Rattle.std.proofs.Common.{◌≡◌, None, Some, true, refl}
use Rattle.icu_options.specs.Settings.{mask_by}
use Rattle.icu_options.specs.FlaggedSettings.{initial_settings, values_of}
use Rattle.icu_options.specs.Conversions.{resolved_of, no_options}
use Rattle.icu_options.specs.Metadata.{metadata_settings}
use Rattle.icu_options.specs.Merge.{merge}
use Rattle.icu_options.specs.declared.settings.Strength.TheVariants.{Secondary, Tertiary}
use Rattle.icu_options.specs.declared.settings.AlternateHandling.TheVariants.{Shifted}
use Rattle.icu_options.specs.declared.settings.MaxVariable.TheVariants.{Punctuation}
use Rattle.icu_options.specs.declared.settings.CaseLevel.TheVariants.{Off}
use Rattle.icu_options.specs.declared.settings.CollationCaseFirst.TheVariants.{False, Lower, Upper}
use Rattle.icu_options.specs.declared.settings.CollationNumericOrdering.TheVariants as numeric
use Rattle.icu_options.specs.declared.options.CollatorPreferences.{CollatorPreferences}

-- metadata 701, case first False and numeric order preferred
metadata_701 : (p : CollatorPreferences) → p.case_first ≡ Some False → p.numeric_ordering ≡ Some numeric.True
    → resolved_of (merge no_options p (metadata_settings 0x701))
    ≡ record {
      strength = Tertiary;
      alternate_handling = Shifted;
      case_first = False;
      max_variable = Punctuation;
      case_level = Off;
      numeric = numeric.True;
    }
metadata_701 p first order = rw (first, order) refl

-- bit 10 is read only with bit 9
metadata_400 : (metadata_settings 0x400).case_first ≡ False
metadata_400 = refl

metadata_600 : (metadata_settings 0x600).case_first ≡ Upper
metadata_600 = refl

-- a preference comes before metadata
prefers_lower : (p : CollatorPreferences) → p.case_first ≡ Some Lower
    → (merge no_options p (metadata_settings 0x600)).case_first ≡ Lower
prefers_lower p first = rw first refl

-- bits 11 and 12 say nothing
metadata_1801 : metadata_settings 0x1801 ≡ metadata_settings 1
metadata_1801 = refl

-- no mask below Tertiary, and none with case as long as case first is not set
mask_at_secondary : mask_by (record (values_of initial_settings) { strength = Secondary }) ≡ None
mask_at_secondary = refl

mask_at_first : mask_by (values_of initial_settings) ≡ Some 0x3F3F
mask_at_first = refl

-- case first brings case in, unless case has a level of its own
mask_upper_first : mask_by (record (values_of initial_settings) { case_first = Upper }) ≡ Some 0xFF3F
mask_upper_first = refl

mask_with_case_level : mask_by
    (record (values_of initial_settings) { case_first = Upper; case_level = true })
    ≡ Some 0x3F3F
mask_with_case_level = refl
