-- What the steps of a merge come to.
use Rattle.std.proofs.Common.{◌≡◌, false, Option, None, Some, unwrap_or, is_some, option_map, refl, ap, ◌∙◌}
use Rattle.icu_options.specs.FlaggedSettings.{FlaggedSettings, explicit, unset, explicit_or, or_default, with_defaults, values_of, flags_of}
use Rattle.icu_options.specs.Conversions.{is_on, is_numeric, settings_of}
use Rattle.icu_options.specs.Merge.{merge, merged_flags, settings_of_metadata}
use Rattle.icu_options.specs.declared.settings.Strength.TheVariants.{Tertiary}
use Rattle.icu_options.specs.declared.settings.CollationCaseFirst.TheVariants.{False}
use Rattle.icu_options.specs.declared.options.CollatorOptions.{CollatorOptions}
use Rattle.icu_options.specs.declared.options.CollatorPreferences.{CollatorPreferences}
use Rattle.icu_options.specs.declared.metadata.MetadataSettings.{MetadataSettings}

-- a setting of the caller above one that the metadata sets
or_default-explicit : {A : Type 0} (own : Option A) (standing below : A)
    → or_default (explicit_or own standing) (explicit below) ≡ explicit (unwrap_or own below)
or_default-explicit (Some x) standing below = refl
or_default-explicit None standing below = refl

-- a setting of the caller above one that no source sets
or_default-unset : {A : Type 0} (own : Option A) (standing below : A)
    → or_default (explicit_or own standing) (unset below) ≡ explicit_or own below
or_default-unset (Some x) standing below = refl
or_default-unset None standing below = refl

-- the merge, value and flag
abbrev flagged_merge : CollatorOptions → CollatorPreferences → MetadataSettings → FlaggedSettings
flagged_merge options preferences metadata =
    record {
      strength = explicit_or options.strength Tertiary;
      max_variable = explicit (unwrap_or options.max_variable metadata.max_variable);
      alternate_handling = explicit (unwrap_or options.alternate_handling metadata.alternate_handling);
      case_level = explicit_or (option_map is_on options.case_level) false;
      case_first = explicit (unwrap_or preferences.case_first metadata.case_first);
      backward_second_level = explicit metadata.backward_second_level;
      numeric = explicit_or (option_map is_numeric preferences.numeric_ordering) false;
    }

-- what options and preferences set, above what metadata sets
abbrev steps_merged : CollatorOptions → CollatorPreferences → MetadataSettings → FlaggedSettings
steps_merged options preferences metadata =
    with_defaults
    (record (settings_of options) {
      case_first = explicit_or preferences.case_first False;
      numeric = explicit_or (option_map is_numeric preferences.numeric_ordering) false;
    })
    (settings_of_metadata metadata)

steps-flagged_merge : (options : CollatorOptions) (preferences : CollatorPreferences)
    (metadata : MetadataSettings)
    → steps_merged options preferences metadata ≡ flagged_merge options preferences metadata
steps-flagged_merge options preferences metadata =
    rw (
      or_default-unset options.strength _ _,
      or_default-explicit options.max_variable _ metadata.max_variable,
      or_default-explicit options.alternate_handling _ metadata.alternate_handling,
      or_default-unset (option_map is_on options.case_level) _ _,
      or_default-explicit preferences.case_first _ metadata.case_first,
      or_default-unset (option_map is_numeric preferences.numeric_ordering) _ _,
    )
    refl

value-explicit_or : {A : Type 0} (own : Option A) (standing : A)
    → (explicit_or own standing).value ≡ unwrap_or own standing
value-explicit_or (Some x) standing = refl
value-explicit_or None standing = refl

flag-explicit_or : {A : Type 0} (own : Option A) (standing : A)
    → (explicit_or own standing).is_explicit ≡ is_some own
flag-explicit_or (Some x) standing = refl
flag-explicit_or None standing = refl

flag-mapped : {A B : Type 0} (f : A → B) (own : Option A) (standing : B)
    → (explicit_or (option_map f own) standing).is_explicit ≡ is_some own
flag-mapped f (Some x) standing = refl
flag-mapped f None standing = refl

-- the values of the steps are the merge
pub values_merged : (options : CollatorOptions) (preferences : CollatorPreferences)
    (metadata : MetadataSettings)
    → values_of (steps_merged options preferences metadata) ≡ merge options preferences metadata
values_merged options preferences metadata =
    ap values_of (steps-flagged_merge options preferences metadata)
    ∙ rw (
      value-explicit_or options.strength Tertiary,
      value-explicit_or (option_map is_on options.case_level) false,
      value-explicit_or (option_map is_numeric preferences.numeric_ordering) false,
    )
    refl

-- the flags are merged from the three sources
pub flags_merged : (options : CollatorOptions) (preferences : CollatorPreferences)
    (metadata : MetadataSettings)
    → flags_of (steps_merged options preferences metadata) ≡ merged_flags options preferences
flags_merged options preferences metadata =
    ap flags_of (steps-flagged_merge options preferences metadata)
    ∙ rw (
      flag-explicit_or options.strength Tertiary,
      flag-mapped is_on options.case_level false,
      flag-mapped is_numeric preferences.numeric_ordering false,
    )
    refl
