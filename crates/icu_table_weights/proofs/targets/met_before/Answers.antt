use Rattle.icu_table_weights.proofs.TargetLemmas.{ok_weaker}
use Rattle.icu_table_weights.proofs.targets.met_before.Goals as goal

pub returns-then-has-clause-none : goal.returns-then-has-clause-none
returns-then-has-clause-none c = ok_weaker c.overlap_with.result _ _ (λ found none h there. none h) c.overlap_with.ensures.none
