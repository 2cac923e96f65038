use Rattle.std.proofs.Common.{take, ◌&&◌}
use Rattle.icu_table_provider.specs.builder.Building.{built_data}
use Rattle.icu_rule_meaning.specs.Rules.{have_character}
use Rattle.icu_rule_tables.specs.tailored_entries.inner.TailoredSets.{TailorsMore, loses_contexts}
use Rattle.icu_rule_tables.proofs.tailored_entries.tailored_lists.set_suppressed.Given as goal

-- those of the ranges so far have their entries
abbrev pub invariant-loop-range : goal.invariant-loop-range
invariant-loop-range g l =
    TailorsMore g.R.RootMappings.mappings_of l.sources.numbers.now l.mappings
    (λ x. have_character (take l.range-index l.range-items) x && loses_contexts g.R.RootMappings.mappings_of l.mappings x)
    (built_data l.fn.builder) (built_data l.builder)
