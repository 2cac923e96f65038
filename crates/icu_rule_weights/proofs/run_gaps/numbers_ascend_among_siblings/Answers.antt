use Rattle.icu_rule_weights.proofs.NumberedRunLemmas.{ascend}
use Rattle.icu_rule_weights.proofs.run_gaps.numbers_ascend_among_siblings.Goals as goal

pub returns : goal.returns
returns c = ascend
