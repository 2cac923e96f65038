-- The characters gone through have their entries.
use Rattle.std.proofs.Common.{◌≡◌, take}
use Rattle.icu_table_provider.specs.builder.Building.{built_data}
use Rattle.icu_table_mini.specs.Characters.{with_characters}
use Rattle.icu_table_mini.proofs.mini_characters.set_characters.Given as goal

abbrev pub invariant-loop-c : goal.invariant-loop-c
invariant-loop-c l =
    built_data l.builder
    ≡ record (built_data l.fn.builder) { value = with_characters (take l.c-index l.characters) (built_data l.fn.builder).value }
