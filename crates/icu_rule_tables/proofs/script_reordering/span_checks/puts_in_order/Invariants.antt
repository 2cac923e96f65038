use Rattle.icu_table_provider.specs.StoredTables.{reordering_of}
use Rattle.icu_rule_tables.specs.script_reordering.inner.CarriedSpans.{IsReorderedTo}
use Rattle.icu_rule_tables.proofs.script_reordering.span_checks.puts_in_order.Given as goal

-- the groups passed are in their order
abbrev pub invariant-loop-span : goal.invariant-loop-span
invariant-loop-span l = IsReorderedTo l.order (reordering_of l.reordering) l.span-index l.above
