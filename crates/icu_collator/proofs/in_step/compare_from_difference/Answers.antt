-- The same elements tie.
use Rattle.std.proofs.Common.{sym}
use Rattle.icu_collator.proofs.InStepLemmas.{same_order}
use Rattle.icu_collator.proofs.in_step.compare_from_difference.Goals as goal

pub returns-in-None-clause-order : goal.returns-in-None-clause-order
returns-in-None-clause-order g c = sym (same_order c.args.level _ _ (c.in_ok-pair.ensures.same c.in-None.is))
