-- The first level decides, or where it ties the second one.
use Rattle.std.proofs.Common.{◌≡◌, ◌≢◌, Equal, refl, sym, ◌∙◌, rules}
use Rattle.icu_collator.specs.declared.forward_levels.Level.TheVariants.{Primary}
use Rattle.icu_collator.specs.inner.FactsInStep.{plain_left}
use Rattle.icu_collator.specs.inner.InStep.{from_first, three_levels}
use Rattle.icu_collator.proofs.InStepLemmas.{first_decides}
use Rattle.icu_collator.proofs.FactsInStepLemmas.{out_decides}
use Rattle.icu_collator.proofs.facts_in_step.order_out_of_step.Goals as goal

pub returns-then-eq : goal.returns-then-eq
returns-then-eq g c = λ b d third.
    let us = plain_left g.L.EncodedText.text c.args.left.now b in
    let vs = plain_left g.R.EncodedText.text c.args.right.now d in
    let ties : c.in_ok-order.order ≡ Equal = search rules in
    out_decides (three_levels (Primary c.args.reordering) c.args.form) third (from_first c.args.pair.0 us) (from_first c.args.pair.1 vs) us vs c.args.pair.0 c.args.pair.1 c.decide-decided.result refl refl
    (sym (c.in_ok-order.ensures b d) ∙ ties) c.decide-decided.ensures

pub returns-else-eq : goal.returns-else-eq
returns-else-eq g c = λ b d third.
    let us = plain_left g.L.EncodedText.text c.args.left.now b in
    let vs = plain_left g.R.EncodedText.text c.args.right.now d in
    let differs : c.in_ok-order.order ≢ Equal = search rules in
    first_decides (three_levels (Primary c.args.reordering) c.args.form) third (from_first c.args.pair.0 us) (from_first c.args.pair.1 vs) c.in_ok-order.order (c.in_ok-order.ensures b d) differs
