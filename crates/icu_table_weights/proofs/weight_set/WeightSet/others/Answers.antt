use Rattle.icu_table_weights.proofs.WeightSetLemmas.{others_listed_in}
use Rattle.icu_table_weights.proofs.weight_set.WeightSet.others.Goals as goal

pub returns-clause-members : goal.returns-clause-members
returns-clause-members c = others_listed_in c.args.self.now c.deref.result.now _ c.deref.ensures.value c.others_among.ensures.small c.others_among.ensures.others
