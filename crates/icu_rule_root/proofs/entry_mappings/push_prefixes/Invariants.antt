use Rattle.std.proofs.Common.{◌≡◌, ◌++◌, map, take}
use Rattle.icu_table_data.specs.StoredData.{data_of, found_context}
use Rattle.icu_rule_steps.specs.symbolic_mappings.StoredMappings.{root_mapping}
use Rattle.icu_rule_root.specs.RootEntries.{mappings_of_prefixes}
use Rattle.icu_rule_root.proofs.entry_mappings.push_prefixes.Given as goal

-- the mappings behind the prefixes so far were added
abbrev pub invariant-loop-index : goal.invariant-loop-index
invariant-loop-index l = map root_mapping l.found.items ≡ map root_mapping l.fn.found.items ++ mappings_of_prefixes (data_of l.fn.home) l.fn.c (take l.index (found_context l.fn.context).mappings)
