use Rattle.std.proofs.Common.{◌≡◌, length}
use Rattle.icu_rule_tables.proofs.script_reordering.lead_places.lead_table.Given as goal

abbrev pub invariant-loop-lead : goal.invariant-loop-lead
invariant-loop-lead l = length l.table.items ≡ l.lead
