-- The digits gone through have their entries.
use Rattle.std.proofs.Common.{◌≡◌}
use Rattle.icu_table_entries.specs.EncodedEntries.{digit_entry}
use Rattle.icu_table_provider.specs.builder.Building.{built_data}
use Rattle.icu_table_mini.specs.Characters.{rising, with_characters_in}
use Rattle.icu_table_mini.proofs.mini_characters.set_digits.Given as goal

abbrev pub invariant-loop-digit : goal.invariant-loop-digit
invariant-loop-digit l =
    built_data l.builder ≡ with_characters_in (built_data l.fn.builder) (rising 0x30 (digit_entry 0 0) 0x2100 l.digit)
