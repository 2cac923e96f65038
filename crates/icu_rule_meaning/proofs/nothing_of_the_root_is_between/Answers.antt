use Rattle.icu_rule_meaning.proofs.BetweenLemmas.{nothing_between}
use Rattle.icu_rule_meaning.proofs.nothing_of_the_root_is_between.Goals as goal

pub returns : goal.returns
returns c = nothing_between
