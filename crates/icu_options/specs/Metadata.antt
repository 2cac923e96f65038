-- What the metadata of a collation, a number, says of the settings. Its other bits say which tables
-- there are.
use Rattle.std.specs.Prelude.{ℕ, ◌%◌, ◌==◌, Bool, if◌then◌else◌}
use Rattle.std.specs.Int.{bit_at}
use Rattle.icu_options.specs.declared.settings.MaxVariable.{MaxVariable}
use Rattle.icu_options.specs.declared.settings.MaxVariable.TheVariants.{Space, Punctuation, Symbol, Currency}
use Rattle.icu_options.specs.declared.settings.AlternateHandling.{AlternateHandling}
use Rattle.icu_options.specs.declared.settings.AlternateHandling.TheVariants.{NonIgnorable, Shifted}
use Rattle.icu_options.specs.declared.settings.CollationCaseFirst.{CollationCaseFirst}
use Rattle.icu_options.specs.declared.settings.CollationCaseFirst.TheVariants.{False, Lower, Upper}
use Rattle.icu_options.specs.declared.metadata.MetadataSettings.{MetadataSettings}

-- whether a bit of a number is set
abbrev pub is_bit_set : ℕ → ℕ → Bool
is_bit_set bits index = bit_at bits index == 1

-- bits 0 and 1: the last variable group
abbrev pub max_variable_of : ℕ → MaxVariable
max_variable_of bits =
    if bits % 4 == 0 then Space else
    (if bits % 4 == 1 then Punctuation else
    (if bits % 4 == 2 then Symbol else Currency))

-- bit 8: variable elements are shifted
abbrev pub alternate_handling_of : ℕ → AlternateHandling
alternate_handling_of bits = if is_bit_set bits 8 then Shifted else NonIgnorable

-- bit 9: case first is set; bit 10, read only then: upper case sorts first
abbrev pub case_first_of : ℕ → CollationCaseFirst
case_first_of bits = if is_bit_set bits 9 then (if is_bit_set bits 10 then Upper else Lower) else False

-- bit 7: the secondary level is compared from the end
abbrev pub is_backward : ℕ → Bool
is_backward bits = is_bit_set bits 7

-- the settings that metadata sets
abbrev pub metadata_settings : ℕ → MetadataSettings
metadata_settings bits =
    record {
      max_variable = max_variable_of bits;
      alternate_handling = alternate_handling_of bits;
      case_first = case_first_of bits;
      backward_second_level = is_backward bits;
    }
