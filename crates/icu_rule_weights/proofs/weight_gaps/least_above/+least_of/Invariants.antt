use Rattle.std.proofs.Common.{length}
use Rattle.icu_rule_weights.proofs.weight_gaps.least_above.+least_of.Given as goal

abbrev pub decreases-least_of : goal.decreases-least_of
decreases-least_of l = length l.ranges.now
