-- What was compared of the same elements is the order.
use Rattle.std.proofs.Common.{◌∙◌, sym}
use Rattle.icu_collator.specs.inner.InStep.{three_levels}
use Rattle.icu_collator.proofs.InStepLemmas.{same_three}
use Rattle.icu_collator.proofs.in_step.compare_in_step.Goals as goal

pub returns-in_default : goal.returns-in_default
returns-in_default g c =
    sym (same_three (three_levels c.args.first c.args.form) c.pairs.third _ _ (c.in_ok-one.ensures.same c.in_default.is))
    ∙ sym c.pairs.invariant.order
