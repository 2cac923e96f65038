-- The number of a collation's metadata, made of what it is to say.
use Rattle.std.specs.Prelude.{ℕ, ◌+◌, ◌*◌, Bool, false, if◌then◌else◌}
use Rattle.icu_options.specs.declared.settings.MaxVariable.{MaxVariable}
use Rattle.icu_options.specs.declared.settings.MaxVariable.TheVariants.{Space, Punctuation, Symbol, Currency}
use Rattle.icu_options.specs.declared.settings.CollationCaseFirst.{CollationCaseFirst}
use Rattle.icu_options.specs.declared.settings.CollationCaseFirst.TheVariants.{False, Lower, Upper}
use Rattle.icu_table_provider.specs.declared.metadata.MetadataFields.{MetadataFields}

-- a bit that is set, or not
abbrev pub bit_of : Bool → ℕ
bit_of is_set = if is_set then 1 else 0

-- two bits for the last variable group
abbrev pub bits_of_group : MaxVariable → ℕ
bits_of_group Space = 0
bits_of_group Punctuation = 1
bits_of_group Symbol = 2
bits_of_group Currency = 3

-- two bits for the case that sorts first
abbrev pub bits_of_case : CollationCaseFirst → ℕ
bits_of_case False = 0
bits_of_case Lower = 1
bits_of_case Upper = 3

-- the number, by its bits from 0 on
abbrev pub metadata_bits : MetadataFields → ℕ
metadata_bits m =
    bits_of_group m.max_variable
    + bit_of m.tailored * 8
    + bit_of m.tailored_diacritics * 16
    + bit_of m.reordering * 32
    + bit_of m.lithuanian_dot_above * 64
    + bit_of m.backward_second_level * 128
    + bit_of m.alternate_shifted * 256
    + bits_of_case m.case_first * 512

-- a last variable group, and nothing else
abbrev pub plain_fields : MaxVariable → MetadataFields
plain_fields max_variable =
    record {
      max_variable = max_variable;
      tailored = false;
      tailored_diacritics = false;
      reordering = false;
      lithuanian_dot_above = false;
      backward_second_level = false;
      alternate_shifted = false;
      case_first = False;
    }
