use Rattle.icu_table_provider.specs.builder.Building.{built_data}
use Rattle.icu_table_mappings.specs.GrownLists.{Extends}
use Rattle.icu_cldr_root.proofs.ResolvedLemmas.{ResolvedSoFar}
use Rattle.icu_cldr_root.proofs.assembly.resolve_contexts.Given as goal

-- the contexts so far are resolved
abbrev pub invariant-loop-c : goal.invariant-loop-c
invariant-loop-c l = record {
  extends : Extends (built_data l.fn.builder) (built_data l.builder);
  so_far : ResolvedSoFar l.contexts (built_data l.builder) l.fn.entries l.entries l.c-iterator;
}
