use Rattle.icu_rule_weights.proofs.PrimaryGapLemmas.{apart}
use Rattle.icu_rule_weights.proofs.primary_gaps.primary_gaps_are_apart.Goals as goal

pub returns : goal.returns
returns c = apart
