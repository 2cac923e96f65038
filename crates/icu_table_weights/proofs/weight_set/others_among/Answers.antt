use Rattle.std.proofs.Common.{◌<◌, ◌^◌, get_or, [], subst, sym, refl, arith}
use Rattle.icu_table_data.specs.CollectedWeights.{Adds}
use Rattle.icu_table_weights.specs.inner.Pages.{IsBelow, IsOther}
use Rattle.icu_table_weights.proofs.PageLemmas.{below_none, below_step, others_listed}
use Rattle.icu_table_weights.proofs.TargetLemmas.{by_index, both_ways}
use Rattle.icu_table_weights.proofs.weight_set.others_among.Goals as goal

pub loop-weight-init : goal.loop-weight-init
loop-weight-init c = subst (λ ws. Adds (IsBelow (λ k. IsOther (get_or c.args.weights.now k 0)) 0) [] ws) (sym c.in_ok-others.ensures.items) (below_none _ [] 0 refl)

pub loop-weight-preserved : goal.loop-weight-preserved
loop-weight-preserved c = below_step (λ k. IsOther (get_or c.args.weights.now k 0)) [] _ _ c.loop-weight.weight-index c.loop-weight.invariant c.in_ok-add_other.ensures

pub returns-clause-others : goal.returns-clause-others
returns-clause-others c = λ w. both_ways (c.sort_and_dedup.ensures.members w) (others_listed c.args.weights.now c.loop-weight.weight-index _ (omega arith) c.loop-weight.invariant w)

pub returns-clause-small : goal.returns-clause-small
returns-clause-small c = by_index (λ w. w < 2 ^ 32) c.args.weights.now (λ k inside. omega (arith, c.type_inv.weights k))
