use Rattle.icu_table_provider.specs.builder.Building.{built_data}
use Rattle.icu_cldr_root.specs.inner.IdeographValues.{SetsBelow}
use Rattle.icu_table_mappings.specs.GrownLists.{HasMoreLists}
use Rattle.icu_cldr_root.proofs.ideograph_entries.set_few.Given as goal

-- the characters so far have their entries
abbrev pub invariant-loop-code : goal.invariant-loop-code
invariant-loop-code l = record {
  lists : HasMoreLists (built_data l.fn.builder) (built_data l.builder);
  sets : SetsBelow (built_data l.fn.builder) (built_data l.builder) l.weighted l.code;
}
