-- Weights are compared, or there are none.
use Rattle.std.proofs.Common.{Ordering, sym, ap, ◌∙◌}
use Rattle.std.specs.Ordering.{ordering_then}
use Rattle.icu_order_texts.specs.weighting.HandledSources.{handled_as}
use Rattle.icu_collator.specs.inner.InStep.{order_on}
use Rattle.icu_collator.proofs.InStepLemmas.{weighed_order, tied_order}
use Rattle.icu_collator.proofs.forward_levels.Level.order_of_weights.Goals as goal

pub returns-in-Some-Some : goal.returns-in-Some-Some
returns-in-Some-Some c = λ hs ks.
    let w = c.in-Some-Some in
    weighed_order c.args.self (handled_as c.args.one.now) (handled_as c.args.other.now) hs ks w.weight w.other_weight
    (sym c.weight.ensures ∙ w.is-0) (sym c.weight-2.ensures ∙ w.is-1)
    ∙ ap (λ (o : Ordering). ordering_then o (order_on c.args.self hs ks)) (sym c.cmp.ensures)

pub returns-in-None-None : goal.returns-in-None-None
returns-in-None-None c = λ hs ks.
    let w = c.in-None-None in
    tied_order c.args.self (handled_as c.args.one.now) (handled_as c.args.other.now) hs ks (sym c.weight.ensures ∙ w.is-0 ∙ sym w.is-1 ∙ c.weight-2.ensures)
