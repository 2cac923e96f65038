use Rattle.std.proofs.Common.{get_or, subst, Contains, arith}
use Rattle.std.proofs.lemmas.List.Elements.{Contains-get_or}
use Rattle.icu_table_weights.proofs.set_overlaps.first_common_met.Goals as goal

pub common_with-requires-clause-member : goal.common_with-requires-clause-member
common_with-requires-clause-member c =
    ((c.in_ok-others.ensures.members _).0 (subst (λ ws. Contains ws (get_or c.deref-weight-items.result.now c.loop-weight.weight-index 0)) c.deref-weight-items.ensures.value
    (Contains-get_or c.deref-weight-items.result.now c.loop-weight.weight-index 0 (omega arith)))).0

pub common_with-requires-clause-other : goal.common_with-requires-clause-other
common_with-requires-clause-other c =
    ((c.in_ok-others.ensures.members _).0 (subst (λ ws. Contains ws (get_or c.deref-weight-items.result.now c.loop-weight.weight-index 0)) c.deref-weight-items.ensures.value
    (Contains-get_or c.deref-weight-items.result.now c.loop-weight.weight-index 0 (omega arith)))).1
