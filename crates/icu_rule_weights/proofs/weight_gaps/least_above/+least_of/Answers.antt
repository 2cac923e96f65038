use Rattle.icu_rule_weights.proofs.weight_gaps.ByteLemmas.{least_of_all}
use Rattle.icu_rule_weights.proofs.weight_gaps.least_above.+least_of.Goals as goal

pub returns-in-Some : goal.returns-in-Some
returns-in-Some t c =
    least_of_all c.args.ranges.now c.in-Some.range c.in-Some.others.now c.least_of.result c.joined.result c.in-Some.ensures
    c.requires.ordered c.least_of.ensures c.joined.ensures.value c.joined.ensures.bound
