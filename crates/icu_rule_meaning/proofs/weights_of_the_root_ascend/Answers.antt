use Rattle.icu_rule_meaning.proofs.AscendingLemmas.{root_ascends}
use Rattle.icu_rule_meaning.proofs.weights_of_the_root_ascend.Goals as goal

pub returns : goal.returns
returns c = root_ascends
