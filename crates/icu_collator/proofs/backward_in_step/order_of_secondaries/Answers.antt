-- Neither is a merge separator, and both have a weight or neither.
use Rattle.std.proofs.Common.{rules}
use Rattle.icu_collator.proofs.BackwardInStepLemmas.{secondaries_step}
use Rattle.icu_collator.proofs.backward_in_step.order_of_secondaries.Goals as goal

pub returns : goal.returns
returns c = secondaries_step c.args.one c.args.other c.cmp.result (search rules) (search rules) (search rules) (search rules)
