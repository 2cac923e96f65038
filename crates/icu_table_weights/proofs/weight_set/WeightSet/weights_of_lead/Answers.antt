use Rattle.std.proofs.Common.{arith}
use Rattle.icu_table_weights.proofs.PageLemmas.{lead_listed}
use Rattle.icu_table_weights.proofs.weight_set.WeightSet.weights_of_lead.Goals as goal

pub returns : goal.returns
returns c = lead_listed c.args.self.now c.args.lead c.from.result _ c.page.result.now _ (omega arith) c.from.ensures c.page.ensures (omega arith) c.weights_of_page.ensures
