use Rattle.std.proofs.Common.{rules, ◌≡◌, ◌<◌, true, length, refl, arith, ◌∙◌}
use Rattle.std.proofs.lemmas.List.{length-set}
use Rattle.icu_table_provider.specs.TableSets.{tables_in}
use Rattle.icu_table_check.specs.inner.EntryViolations.{LeadPasses}
use Rattle.icu_table_check.proofs.PassingLeadLemmas.{no_leads, one_lead_more}
use Rattle.icu_table_check.proofs.check.entry_judge.passing_leads.Goals as goal

pub loop-lead-init : goal.loop-lead-init
loop-lead-init c = record { long = refl; pass = no_leads (tables_in c.args.tables) }

pub loop-lead-preserved : goal.loop-lead-preserved
loop-lead-preserved c =
    let b = c.loop-lead.lead in
    let leads = c.loop-lead.leads in
    let known : c.lead_passes.result ≡ true → LeadPasses (tables_in c.args.tables) b = search rules in
    let below : b < 256 = search rules in
    let inside : b < length leads = omega (arith, below, c.loop-lead.invariant.long) in
    record {
      long = length-set leads b c.lead_passes.result ∙ c.loop-lead.invariant.long;
      pass = one_lead_more (tables_in c.args.tables) leads b c.lead_passes.result inside known c.loop-lead.invariant.pass;
    }

pub returns : goal.returns
returns c = c.loop-lead.invariant.pass
