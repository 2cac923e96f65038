use Rattle.icu_rule_weights.proofs.SiblingNumberLemmas.{numbers_of_trees_ascend}
use Rattle.icu_rule_weights.proofs.run_gaps.numbers_of_trees_ascend.Goals as goal

pub returns : goal.returns
returns c = numbers_of_trees_ascend c.weights_of_the_root_ascend.ensures
