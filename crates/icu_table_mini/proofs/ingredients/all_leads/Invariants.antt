-- The numbers as far as they have come.
use Rattle.std.proofs.Common.{◌≡◌}
use Rattle.icu_table_mini.specs.Characters.{run}
use Rattle.icu_table_mini.proofs.ingredients.all_leads.Given as goal

abbrev pub invariant-loop-lead : goal.invariant-loop-lead
invariant-loop-lead l = l.leads.items ≡ run 0 1 l.lead
