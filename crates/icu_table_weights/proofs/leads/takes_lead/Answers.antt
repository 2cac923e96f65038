use Rattle.std.proofs.Common.{◌+◌, ◌*◌, refl, arith, below_more}
use Rattle.icu_table_provider.specs.StoredTables.{reordering_of}
use Rattle.icu_table_provider.specs.well_formed.Leads.{TakesLead, TakesBlock}
use Rattle.icu_table_provider.proofs.well_formed.LeadLemmas.{takes_lead}
use Rattle.icu_table_weights.proofs.leads.takes_lead.Goals as goal

pub loop-second-preserved : goal.loop-second-preserved
loop-second-preserved c =
    let r = reordering_of c.args.reordering in
    let passed : TakesBlock r (c.args.from * 256 + c.loop-second.second) c.args.to = rw c.from-first.ensures at (c.takes_block.ensures.0 c.if-not-takes_block.false) in
    below_more (λ s. TakesBlock r (c.args.from * 256 + s) c.args.to) c.loop-second.second c.loop-second.invariant passed

pub returns : goal.returns
returns c =
    let r = reordering_of c.args.reordering in
    let all : TakesLead r c.args.from c.args.to = takes_lead r c.args.from c.args.to (λ s below. c.loop-second.invariant s (omega arith)) in
    (λ h. all, λ h. refl)
