use Rattle.std.proofs.Common.{◌≡◌, take}
use Rattle.icu_table_data.specs.StoredData.{contexts_of}
use Rattle.icu_table_provider.specs.builder.Building.{built_data}
use Rattle.icu_rule_tables.specs.tailored_entries.inner.RootLists.{and_contexts}
use Rattle.icu_rule_tables.proofs.tailored_entries.root_lists.add_contexts.Given as goal

-- the contexts so far were added
abbrev pub invariant-loop-index : goal.invariant-loop-index
invariant-loop-index l = built_data l.builder ≡ and_contexts (built_data l.fn.builder) (take l.index (contexts_of l.contexts))
