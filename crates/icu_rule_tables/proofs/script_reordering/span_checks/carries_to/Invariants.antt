use Rattle.icu_table_provider.specs.StoredTables.{reordering_of}
use Rattle.icu_rule_tables.specs.script_reordering.inner.CarriedSpans.{CarriesUpTo}
use Rattle.icu_rule_tables.proofs.script_reordering.span_checks.carries_to.Given as goal

-- the blocks passed move alike
abbrev pub invariant-loop-high : goal.invariant-loop-high
invariant-loop-high l = CarriesUpTo (reordering_of l.reordering) l.span l.to l.high
