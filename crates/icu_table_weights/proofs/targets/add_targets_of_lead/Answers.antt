use Rattle.std.proofs.Common.{ℕ, List, get_or, sym, subst, option_map, Contains, arith}
use Rattle.std.proofs.lemmas.List.Elements.{Contains-get_or}
use Rattle.icu_table_provider.specs.StoredTables.{reordering_of}
use Rattle.icu_table_weights.specs.WeightSets.{weights_of_set}
use Rattle.icu_table_weights.proofs.TargetLemmas.{lead_begun, lead_more, lead_done}
use Rattle.icu_table_weights.proofs.targets.add_targets_of_lead.Goals as goal

pub loop-weight-init : goal.loop-weight-init
loop-weight-init c = lead_begun (option_map reordering_of c.args.reordering) (weights_of_set c.args.set.now) c.deref-weight-items.result.now c.args.lead (weights_of_set c.args.targets.now) c.requires

pub add_target-requires : goal.add_target-requires
add_target-requires c =
    ((c.in_ok-list.ensures _).0 (subst (λ ws. Contains ws (get_or c.deref-weight-items.result.now c.loop-weight.weight-index 0)) c.deref-weight-items.ensures.value
    (Contains-get_or c.deref-weight-items.result.now c.loop-weight.weight-index 0 (omega arith)))).has

pub loop-weight-preserved : goal.loop-weight-preserved
loop-weight-preserved c =
    let items : List ℕ = c.deref-weight-items.result.now in
    lead_more (option_map reordering_of c.args.reordering) (weights_of_set c.args.set.now) items c.args.lead (weights_of_set c.loop-weight.targets) (weights_of_set c.add_target.new.targets) c.loop-weight.weight-index (omega arith)
    (λ v h. let is = (c.in_ok-list.ensures v).0 (subst (λ ws. Contains ws v) c.deref-weight-items.ensures.value h) in (is.has, is.three))
    c.loop-weight.invariant (c.in_ok-overlap.ensures.added c.in_default.is) (c.in_ok-overlap.ensures.none c.in_default.is)

pub returns-clause-met : goal.returns-clause-met
returns-clause-met c = λ _.
    lead_done (option_map reordering_of c.args.reordering) (weights_of_set c.args.set.now) c.deref-weight-items.result.now c.args.lead (weights_of_set c.loop-weight.targets) c.loop-weight.weight-index (omega arith)
    (λ v has three at. subst (λ ws. Contains ws v) (sym c.deref-weight-items.ensures.value) ((c.in_ok-list.ensures v).1 (record { has = has; three = three; of_lead = at })))
    c.loop-weight.invariant
