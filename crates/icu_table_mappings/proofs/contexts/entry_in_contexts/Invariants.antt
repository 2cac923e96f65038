use Rattle.std.proofs.Common.{◌≡◌, [], ℕ, List, Some, true, ◌⊎◌}
use Rattle.std.specs.Prelude.{is_some}
use Rattle.std.specs.Map.{keys_of}
use Rattle.icu_table_provider.specs.builder.Building.{built_data}
use Rattle.icu_table_mappings.specs.Surroundings.{entry_at}
use Rattle.icu_table_mappings.specs.inner.ContextParts.{is_among, LeadsNearest}
use Rattle.icu_table_mappings.specs.GrownLists.{Extends}
use Rattle.icu_table_mappings.proofs.contexts.entry_in_contexts.Given as goal

abbrev pub invariant-loop-before : goal.invariant-loop-before
invariant-loop-before l = record {
  extends : Extends (built_data l.fn.builder) (built_data l.builder);
  alone : entry_at l.entries [] ≡ Some l.default;
  leads : (before : List ℕ) (e : ℕ) → entry_at l.entries before ≡ Some e → LeadsNearest l.contexts l.fn.own (built_data l.builder) before e;
  covers : (before : List ℕ) → is_among (keys_of l.contexts.entries) before ≡ true → (is_some (entry_at l.entries before) ≡ true) ⊎ (is_among l.before-iterator before ≡ true);
}
