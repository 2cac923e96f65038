use Rattle.std.proofs.Common.{◌≡◌, true, drop}
use Rattle.icu_table_provider.specs.builder.Building.{built_data}
use Rattle.icu_table_mappings.specs.GrownLists.{Extends}
use Rattle.icu_rule_steps.specs.symbolic_mappings.StoredMappings.{symbolic_mappings}
use Rattle.icu_rule_tables.specs.tailored_entries.GivenMappings.{mappings_fit}
use Rattle.icu_rule_tables.specs.tailored_entries.inner.MappingEntries.{HasEntriesOf}
use Rattle.icu_rule_tables.proofs.tailored_entries.contexts.contexts_of.Given as goal

-- the mappings behind have their entries, and their weights fit
abbrev pub invariant-loop-index : goal.invariant-loop-index
invariant-loop-index l = record {
  extends : Extends (built_data l.fn.builder) (built_data l.builder);
  entries : HasEntriesOf l.sources.numbers.now (built_data l.builder) l.c (symbolic_mappings (drop l.index l.own)) l.contexts;
  fit : mappings_fit l.sources.numbers.now (symbolic_mappings (drop l.index l.own)) ≡ true;
}
