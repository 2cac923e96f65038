use Rattle.std.proofs.Common.{length}
use Rattle.icu_rule_weights.proofs.weight_gaps.least_above.+least_above.Given as goal

abbrev pub decreases-least_above : goal.decreases-least_above
decreases-least_above l = length l.ranges.now
