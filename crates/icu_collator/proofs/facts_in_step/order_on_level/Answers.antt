-- Weights are compared in turn.
use Rattle.std.proofs.Common.{ap₂, sym, ◌∙◌}
use Rattle.icu_order_levels.specs.ListOrder.{list_order}
use Rattle.icu_collator.specs.inner.FactsInStep.{plain_left}
use Rattle.icu_collator.specs.inner.InStep.{order_on, from_first}
use Rattle.icu_collator.proofs.FactsInStepLemmas.{none_found, passed_on, order_by_weights, same_found}
use Rattle.icu_collator.proofs.facts_in_step.order_on_level.Goals as goal

pub weights-init : goal.weights-init
weights-init g c = record {
  orders = λ b d.
      let n = c.in_ok-weight.ensures.next b in
      let m = c.in_ok-other_weight.ensures.next d in (
        n.0,
        m.0,
        order_by_weights c.args.level (from_first c.args.pair.0 (plain_left g.L.EncodedText.text c.args.left.now b)) (from_first c.args.pair.1 (plain_left g.R.EncodedText.text c.args.right.now d)) _ _ n.1 m.1,
      );
  reading = c.in_ok-weight.ensures.reading ∙ c.requires ∙ sym c.in_ok-other_weight.ensures.reading;
}

pub weights-preserved : goal.weights-preserved
unfolding order_on
weights-preserved g c = record {
  orders = λ b d.
      let at = c.weights.invariant.orders b d in
      let passed = passed_on g.L.EncodedText.text g.R.EncodedText.text c.weights.left c.weights.right c.pass_common-worth.new.left c.pass_common-worth.new.right
      c.pass_common-worth.ensures.passes c.args.level at.0 at.1 in
      let n = c.in_ok-weight-2.ensures.next passed.0 in
      let m = c.in_ok-other_weight-2.ensures.next passed.1 in (
        n.0,
        m.0,
        at.2 ∙ c.order_of_next-order.ensures.none (none_found c.order_of_next-order.result _ c.is_some.ensures c.if-is_some.false) _ _ ∙ passed.2 ∙ ap₂ list_order n.1 m.1,
      );
  reading = c.in_ok-weight-2.ensures.reading ∙ c.pass_common-worth.ensures.reading ∙ sym c.in_ok-other_weight-2.ensures.reading;
}

pub returns-then-is_some : goal.returns-then-is_some
returns-then-is_some g c = λ b d.
    let at = c.weights.invariant.orders b d in
    same_found c.order_of_next-order.result _ _ (sym at.2) (c.order_of_next-order.ensures.some _ _)
