use Rattle.std.proofs.Common.{◌≡◌, false, rules, sym, ap, ◌∙◌}
use Rattle.icu_table_entries.specs.Entries.{kind_of}
use Rattle.icu_table_data.specs.StoredData.{data_of}
use Rattle.icu_table_data.specs.inner.BlockWalks.{is_wanted, leads_to, leads_further}
use Rattle.icu_table_data.proofs.CharacterWalkLemmas.{still_clear}
use Rattle.icu_table_data.proofs.ReachLemmas.{leaf_leads}
use Rattle.icu_table_data.proofs.clear_entries.is_plainly_clear.Goals as goal

pub returns-then-not-leads_further-clause-none : goal.returns-then-not-leads_further-clause-none
returns-then-not-leads_further-clause-none c clear =
    let further : leads_further (kind_of c.args.bits) ≡ false = search rules in
    let other : is_wanted c.args.part c.args.bits ≡ false = search rules in
    leaf_leads c.args.part (data_of c.args.home) c.args.bits further ∙ other

pub returns-clause-clear : goal.returns-clause-clear
returns-clause-clear c =
    still_clear c.args.part (data_of c.args.home) _ _ c.args.bits c.remember.ensures
    (ap (leads_to c.args.part (data_of c.args.home)) (sym c.new-entry.ensures) ∙ sym c.leads_to.ensures ∙ c.if-leads_to.false) c.requires
