use Rattle.icu_table_weights.proofs.WeightSetLemmas.{none_in}
use Rattle.icu_table_weights.proofs.weight_set.WeightSet.new.Goals as goal

pub returns : goal.returns
returns c = none_in _ c.new.ensures.items c.new-2.ensures.items
