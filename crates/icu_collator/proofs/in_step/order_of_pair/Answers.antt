-- Elements that tie on two levels step by the third.
use Rattle.std.proofs.Common.{rules}
use Rattle.icu_collator.specs.inner.InStep.{three_levels}
use Rattle.icu_collator.proofs.InStepLemmas.{steps_by}
use Rattle.icu_collator.proofs.in_step.order_of_pair.Goals as goal

pub returns : goal.returns
returns c =
    steps_by (three_levels c.args.first c.args.form) c.args.one.now c.args.other.now c.order_of_weights.result
    (c.ties.ensures (search rules)) (c.ties-else-not-ties.ensures (search rules)) c.order_of_weights.ensures
