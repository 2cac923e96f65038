use Rattle.std.proofs.Common.{◌≡◌, ◌≤◌, ◌&&◌}
use Rattle.std.specs.Prelude.{◌⊎◌, nat_le, nat_lt}
use Rattle.icu_table_provider.specs.builder.Building.{built_data}
use Rattle.icu_rule_tables.specs.tailored_entries.inner.TailoredSets.{TailorsMore, loses_contexts}
use Rattle.icu_rule_tables.proofs.tailored_entries.tailored_lists.suppress_from.Given as goal

-- those so far have their entries
abbrev pub invariant-loop-code : goal.invariant-loop-code
invariant-loop-code g l = record {
  from : l.fn.first ≤ l.code;
  to : (l.code ≤ l.fn.end) ⊎ (l.code ≡ l.fn.first);
  given :
      TailorsMore g.R.RootMappings.mappings_of l.sources.numbers.now l.mappings
      (λ x. (nat_le l.fn.first x && nat_lt x l.code) && loses_contexts g.R.RootMappings.mappings_of l.mappings x)
      (built_data l.fn.builder) (built_data l.builder);
}
