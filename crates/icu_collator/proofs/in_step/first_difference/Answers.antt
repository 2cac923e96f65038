-- The same element on both sides is passed.
use Rattle.std.proofs.Common.{◌≡◌, ◌∷◌, ◌∙◌, sym, ap, length, arith, rules}
use Rattle.icu_order_texts.specs.weighting.HandledSources.{handled_as}
use Rattle.icu_order_texts.specs.weighting.Handled.{HandledElement}
use Rattle.std.proofs.Common.{List}
use Rattle.icu_collator.specs.inner.InStep.{order_on}
use Rattle.icu_collator.specs.inner.LevelWeights.{weight_in}
use Rattle.icu_collator.proofs.InStepLemmas.{tied_order}
use Rattle.icu_collator.proofs.in_step.first_difference.Goals as goal

pub pairs-preserved : goal.pairs-preserved
pairs-preserved g c =
    let w = c.in-Some-Some in
    let h = handled_as w.element in
    let k = handled_as w.its_pair in
    let us : List HandledElement = g.L.HandledSource.handled_left c.next_handled.new.self in
    let vs : List HandledElement = g.R.HandledSource.handled_left c.next_handled-in-pairs.new.self in
    let l : g.L.HandledSource.handled_left c.pairs.left ≡ h ∷ us = rw w.is-0 at c.in_ok-one.ensures in
    let r : g.R.HandledSource.handled_left c.pairs.right ≡ k ∷ vs = rw w.is-1 at c.in_ok-other.ensures in
    let e : w.element ≡ w.its_pair = search rules in
    let f : h ≡ k = ap handled_as e in
    record {
      same = λ q. c.pairs.invariant.same (l ∙ ap (λ (x : HandledElement). x ∷ us) f ∙ ap (λ (xs : List HandledElement). k ∷ xs) q ∙ sym r);
      order = λ level. c.pairs.invariant.order level
          ∙ ap (λ (xs : List HandledElement). order_on level xs (g.R.HandledSource.handled_left c.pairs.right)) l
          ∙ ap (order_on level (h ∷ us)) r ∙ tied_order level h k us vs (ap (weight_in level) f);
      size = omega (arith, ap length l, c.pairs.invariant.size);
    }
