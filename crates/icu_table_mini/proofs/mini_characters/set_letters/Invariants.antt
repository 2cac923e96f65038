-- The letters gone through have their entries.
use Rattle.std.proofs.Common.{◌≡◌}
use Rattle.icu_table_entries.specs.EncodedEntries.{simple_entry}
use Rattle.icu_table_provider.specs.builder.Building.{built_data}
use Rattle.icu_table_mini.specs.Characters.{rising, with_characters_in}
use Rattle.icu_table_mini.proofs.mini_characters.set_letters.Given as goal

abbrev pub invariant-loop-index : goal.invariant-loop-index
invariant-loop-index l =
    built_data l.builder ≡ with_characters_in (built_data l.fn.builder) (rising l.first (simple_entry 0x6110 5 l.lower) 0x40000 l.index)
