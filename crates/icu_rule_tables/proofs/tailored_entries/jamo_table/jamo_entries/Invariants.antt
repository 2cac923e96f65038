use Rattle.std.proofs.Common.{◌≡◌, length}
use Rattle.icu_table_provider.specs.builder.Building.{built_data}
use Rattle.icu_table_mappings.specs.GrownLists.{Extends}
use Rattle.icu_rule_tables.specs.tailored_entries.inner.RootLists.{HasJamoEntries}
use Rattle.icu_rule_tables.proofs.tailored_entries.jamo_table.jamo_entries.Given as goal

-- the entries so far
abbrev pub invariant-loop-place : goal.invariant-loop-place
invariant-loop-place g l = record {
  extends : Extends (built_data l.fn.builder) (built_data l.builder);
  count : length l.entries.items ≡ l.place;
  entries : HasJamoEntries g.R.RootMappings.mappings_of l.sources.numbers.now l.mappings (built_data l.builder) l.rooted l.place l.entries.items;
}
