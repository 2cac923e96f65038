use Rattle.std.proofs.Common.{◌≡◌, ◌++◌, map}
use Rattle.icu_table_provider.specs.builder.AddedContexts.{given_mapping}
use Rattle.icu_table_mappings.specs.inner.ContextParts.{mappings_by}
use Rattle.icu_table_mappings.proofs.contexts.mappings_by.Given as goal

abbrev pub invariant-loop-chars : goal.invariant-loop-chars
invariant-loop-chars l = map given_mapping l.list.items ++ mappings_by l.chars-iterator ≡ mappings_by l.entries.entries
