use Rattle.icu_collator.proofs.BackwardInStepLemmas.{steps_backward}
use Rattle.icu_collator.proofs.backward_in_step.step_backward.Goals as goal

pub returns : goal.returns
returns c = steps_backward c.args.form c.args.one c.args.other c.in_ok-second.second c.in_ok-third.third c.in_ok-second.ensures c.in_ok-third.ensures
