use Rattle.std.proofs.Common.{true}
use Rattle.icu_table_data.specs.Reachable.{reachable_from}
use Rattle.icu_table_data.specs.StoredData.{data_of}
use Rattle.icu_table_data.proofs.CollectedWeightLemmas.{collected_among}
use Rattle.icu_table_data.proofs.reachable_weights.collect_weights_from.Goals as goal

pub returns : goal.returns
returns g c =
    collected_among g.W.Weigh.weight c.args.weigh.now true (data_of c.args.home) _ _ _ c.over-collector.ensures.weigh c.over-collector.ensures.weights
    c.args.c (reachable_from (data_of c.args.home) c.args.entry) c.visit_from-outcome.result _ _ c.visit_from-outcome.ensures
