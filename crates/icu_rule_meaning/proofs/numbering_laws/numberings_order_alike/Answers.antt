use Rattle.icu_rule_meaning.proofs.numbering_laws.LevelItemLemmas.{alike}
use Rattle.icu_rule_meaning.proofs.numbering_laws.numberings_order_alike.Goals as goal

pub returns : goal.returns
returns c = alike
