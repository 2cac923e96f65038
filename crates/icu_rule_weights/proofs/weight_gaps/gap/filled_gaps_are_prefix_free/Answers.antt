use Rattle.icu_rule_weights.proofs.weight_gaps.GapLemmas.{filled_free}
use Rattle.icu_rule_weights.proofs.weight_gaps.gap.filled_gaps_are_prefix_free.Goals as goal

pub returns : goal.returns
returns c = filled_free
