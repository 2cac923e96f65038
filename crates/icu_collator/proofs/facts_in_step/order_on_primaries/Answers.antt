-- What both have in common is passed over, and then the weights decide.
use Rattle.std.proofs.Common.{◌∙◌, List, ap₂, sym}
use Rattle.icu_order_levels.specs.ListOrder.{list_order}
use Rattle.icu_order_texts.specs.weighting.Handled.{HandledElement}
use Rattle.icu_collator.specs.declared.forward_levels.Level.{Level}
use Rattle.icu_collator.specs.declared.forward_levels.Level.TheVariants.{Primary}
use Rattle.icu_collator.specs.inner.InStep.{order_on}
use Rattle.icu_collator.specs.inner.LevelWeights.{level_weights}
use Rattle.icu_collator.proofs.FactsInStepLemmas.{passed_on, same_found}
use Rattle.icu_collator.proofs.facts_in_step.order_on_primaries.Goals as goal

pub returns : goal.returns
unfolding order_on
returns g c = λ b d.
    let level : Level = Primary c.args.reordering in
    let passed = passed_on g.L.EncodedText.text g.R.EncodedText.text c.args.left.now c.args.right.now c.pass_common.new.left c.pass_common.new.right
    c.pass_common.ensures.passes level b d in
    let n = c.in_ok-one.ensures.next passed.0 in
    let m = c.in_ok-other.ensures.next passed.1 in
    same_found c.order_on_level.result _ _
    (sym (passed.2 ∙ ap₂ (λ (hs ks : List HandledElement). list_order (level_weights level hs) (level_weights level ks)) n.1 m.1))
    (c.order_on_level.ensures n.0 m.0)
