use Rattle.std.proofs.lemmas.Result.{IfOk-weaker}
use Rattle.icu_table_provider.specs.builder.Building.{built_data}
use Rattle.icu_rule_steps.specs.symbolic_mappings.StoredMappings.{symbolic_mapping, symbolic_mappings}
use Rattle.icu_rule_tables.proofs.tailored_entries.NearestMappingLemmas.{lone_given}
use Rattle.icu_rule_tables.proofs.tailored_entries.contexts.entry_of_mappings.Goals as goal

pub returns-in-Some-clause-gives : goal.returns-in-Some-clause-gives
returns-in-Some-clause-gives c =
    IfOk-weaker c.entry_of_mapping.result _ _
    (λ e is. lone_given c.args.sources.numbers.now (built_data c.entry_of_mapping.new.builder) c.args.c (symbolic_mapping c.in-Some.mapping.now) e
    (symbolic_mappings c.args.own.now) c.in-Some.ensures.lone c.in-Some.ensures.alone is)
    c.entry_of_mapping.ensures.entry
