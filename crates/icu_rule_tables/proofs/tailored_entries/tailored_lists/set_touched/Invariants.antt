use Rattle.std.proofs.Common.{take}
use Rattle.icu_table_provider.specs.builder.Building.{built_data}
use Rattle.icu_rule_steps.specs.symbolic_mappings.TouchedCharacters.{have_touched}
use Rattle.icu_rule_tables.specs.tailored_entries.inner.TailoredSets.{TailorsMore}
use Rattle.icu_rule_tables.proofs.tailored_entries.tailored_lists.set_touched.Given as goal

-- those listed so far have their entries
abbrev pub invariant-loop-touched : goal.invariant-loop-touched
invariant-loop-touched g l =
    TailorsMore g.R.RootMappings.mappings_of l.sources.numbers.now l.mappings (have_touched (take l.touched-index l.touched-items))
    (built_data l.fn.builder) (built_data l.builder)
