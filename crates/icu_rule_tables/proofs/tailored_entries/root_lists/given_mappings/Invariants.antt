use Rattle.std.proofs.Common.{◌≡◌, map, take}
use Rattle.icu_table_data.specs.StoredData.{found_context}
use Rattle.icu_table_provider.specs.builder.AddedContexts.{given_mapping}
use Rattle.icu_rule_tables.proofs.tailored_entries.root_lists.given_mappings.Given as goal

-- the mappings so far
abbrev pub invariant-loop-index : goal.invariant-loop-index
invariant-loop-index l = map given_mapping l.given.items ≡ take l.index (found_context l.found).mappings
