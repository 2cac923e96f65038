-- The settings of a collator: seven values (UTS #35 part 5, "Setting Options").
use Rattle.std.specs.Prelude.{Bool, true, false, Option, None, Some, ℕ, ◌+◌, if◌then◌else◌, ◌&&◌, not}
use Rattle.icu_options.specs.declared.settings.Strength.{Strength}
use Rattle.icu_options.specs.declared.settings.Strength.TheVariants.{Primary, Secondary, Tertiary, Quaternary, Identical}
use Rattle.icu_options.specs.declared.settings.MaxVariable.{MaxVariable}
use Rattle.icu_options.specs.declared.settings.AlternateHandling.{AlternateHandling}
use Rattle.icu_options.specs.declared.settings.CollationCaseFirst.{CollationCaseFirst}
use Rattle.icu_options.specs.declared.settings.CollationCaseFirst.TheVariants.{False, Lower, Upper}

-- the settings of a collator (UTS #35 part 5, "Setting Options")
pub record Settings : Type 0 where
  pub strength : Strength
  pub max_variable : MaxVariable
  pub alternate_handling : AlternateHandling
  pub case_level : Bool
  pub case_first : CollationCaseFirst
  pub backward_second_level : Bool
  pub numeric : Bool

-- whether texts are compared on the tertiary level (UTS #10, "Multi-Level Comparison")
abbrev pub has_tertiary_level : Strength → Bool
has_tertiary_level Primary = false
has_tertiary_level Secondary = false
has_tertiary_level Tertiary = true
has_tertiary_level Quaternary = true
has_tertiary_level Identical = true

-- whether case comes before the other tertiary differences
abbrev pub is_case_first_set : CollationCaseFirst → Bool
is_case_first_set False = false
is_case_first_set Lower = true
is_case_first_set Upper = true

-- whether upper case sorts before lower case
abbrev pub is_upper_first : CollationCaseFirst → Bool
is_upper_first False = false
is_upper_first Lower = false
is_upper_first Upper = true

-- where the tertiary weight stands in the lower half of an element
abbrev pub tertiary_bits : ℕ
tertiary_bits = 0x3F3F

-- where case stands there
abbrev pub case_bits : ℕ
case_bits = 0xC000

-- whether case counts on the tertiary level: case first is set, and case has no level of its own
abbrev pub is_case_tertiary : Settings → Bool
is_case_tertiary s = is_case_first_set s.case_first && not s.case_level

-- the part of an element's lower half that the tertiary level compares, if there is that level
abbrev pub mask_by : Settings → Option ℕ
mask_by s =
    if has_tertiary_level s.strength
    then Some (if is_case_tertiary s then case_bits + tertiary_bits else tertiary_bits)
    else None
