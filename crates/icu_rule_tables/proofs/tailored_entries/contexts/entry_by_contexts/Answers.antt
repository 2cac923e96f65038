use Rattle.icu_table_provider.specs.builder.Building.{built_data}
use Rattle.icu_rule_steps.specs.symbolic_mappings.StoredMappings.{symbolic_mappings}
use Rattle.icu_rule_tables.proofs.tailored_entries.NearestMappingLemmas.{mappings_given}
use Rattle.icu_rule_tables.proofs.tailored_entries.contexts.entry_by_contexts.Goals as goal

pub returns-clause-gives : goal.returns-clause-gives
returns-clause-gives c =
    mappings_given c.args.sources.numbers.now (built_data c.contexts_of.new.builder) c.args.c (symbolic_mappings c.args.own.now)
    c.in_ok-contexts.contexts c.simple-ignorable.result c.in_ok-contexts.ensures.entries (built_data c.entry_in_contexts.new.builder)
    c.in_ok-entry.entry c.in_ok-entry.ensures.extends.lists c.in_ok-entry.ensures.just c.in_ok-contexts.ensures.fit
