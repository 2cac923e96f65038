use Rattle.std.proofs.Common.{get_or, sym, subst, option_map, Contains, below_more, arith}
use Rattle.std.proofs.lemmas.List.Elements.{Contains-get_or}
use Rattle.icu_table_provider.specs.StoredTables.{reordering_of}
use Rattle.icu_table_weights.specs.Overlaps.{written_bytes}
use Rattle.icu_table_weights.specs.WeightSets.{weights_of_set}
use Rattle.icu_table_weights.specs.inner.Targets.{IsApartFromThree}
use Rattle.icu_table_weights.proofs.TargetLemmas.{by_index}
use Rattle.icu_table_weights.proofs.targets.first_met.Goals as goal

pub met_by-requires-clause-member : goal.met_by-requires-clause-member
met_by-requires-clause-member c =
    ((c.in_ok-others.ensures.members _).0 (subst (λ ws. Contains ws (get_or c.deref-weight-items.result.now c.loop-weight.weight-index 0)) c.deref-weight-items.ensures.value
    (Contains-get_or c.deref-weight-items.result.now c.loop-weight.weight-index 0 (omega arith)))).0

pub met_by-requires-clause-other : goal.met_by-requires-clause-other
met_by-requires-clause-other c =
    ((c.in_ok-others.ensures.members _).0 (subst (λ ws. Contains ws (get_or c.deref-weight-items.result.now c.loop-weight.weight-index 0)) c.deref-weight-items.ensures.value
    (Contains-get_or c.deref-weight-items.result.now c.loop-weight.weight-index 0 (omega arith)))).1

pub loop-weight-preserved : goal.loop-weight-preserved
loop-weight-preserved c =
    below_more (λ k. IsApartFromThree (written_bytes (option_map reordering_of c.args.reordering)) (weights_of_set c.args.set.now) (get_or c.deref-weight-items.result.now k 0))
    c.loop-weight.weight-index c.loop-weight.invariant (c.in_ok-overlap.ensures.none c.in_default.is)

pub returns-clause-none : goal.returns-clause-none
returns-clause-none c = λ _ w has other.
    by_index (λ w. IsApartFromThree (written_bytes (option_map reordering_of c.args.reordering)) (weights_of_set c.args.set.now) w) c.deref-weight-items.result.now
    (λ k inside. c.loop-weight.invariant k (omega arith)) w
    (subst (λ ws. Contains ws w) (sym c.deref-weight-items.ensures.value) ((c.in_ok-others.ensures.members w).1 (has, other)))
