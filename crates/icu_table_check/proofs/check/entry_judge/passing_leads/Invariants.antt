use Rattle.std.proofs.Common.{◌≡◌, length}
use Rattle.icu_table_provider.specs.TableSets.{tables_in}
use Rattle.icu_table_check.specs.inner.EntryViolations.{AreLeadsPassing}
use Rattle.icu_table_check.proofs.check.entry_judge.passing_leads.Given as goal

-- what is known of the lead bytes so far
abbrev pub invariant-loop-lead : goal.invariant-loop-lead
invariant-loop-lead l = record {
  long : length l.leads ≡ 256;
  pass : AreLeadsPassing (tables_in l.tables) l.leads;
}
