use Rattle.std.proofs.Common.{◌≡◌, ◌++◌, map, take}
use Rattle.icu_table_data.specs.StoredData.{data_of, found_context}
use Rattle.icu_rule_steps.specs.symbolic_mappings.StoredMappings.{root_mapping}
use Rattle.icu_rule_root.specs.RootEntries.{suffix_mappings}
use Rattle.icu_rule_root.proofs.entry_mappings.push_suffixes.Given as goal

-- the mappings of the suffixes so far were added
abbrev pub invariant-loop-index : goal.invariant-loop-index
invariant-loop-index l = map root_mapping l.found.items ≡ map root_mapping l.fn.found.items ++ suffix_mappings (data_of l.fn.home) l.fn.c l.fn.prefix (take l.index (found_context l.fn.context).mappings)
