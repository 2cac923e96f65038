-- The mappings gone through were added.
use Rattle.std.proofs.Common.{map, take}
use Rattle.icu_table_provider.specs.builder.AddedContexts.{given_mapping}
use Rattle.icu_table_provider.specs.builder.inner.AddedMappings.{AddsMappings}
use Rattle.icu_table_provider.proofs.builder.added_context.push_mappings.Given as goal

abbrev pub invariant-loop-list : goal.invariant-loop-list
invariant-loop-list l =
    AddsMappings l.fn.mappings.items l.fn.chars.items l.mappings.items l.chars.items (map given_mapping (take l.list-index l.given))
