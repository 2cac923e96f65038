use Rattle.icu_order_levels.proofs.beginnings.AboveLemmas.{beginnings_between}
use Rattle.icu_order_levels.proofs.beginnings.laws.beginnings_stand_together.Goals as goal

pub returns : goal.returns
returns c = λ ps bs f g. beginnings_between ps bs f g
