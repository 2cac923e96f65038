use Rattle.icu_table_data.specs.StoredData.{data_of}
use Rattle.icu_table_data.proofs.CollectedWeightLemmas.{collected_reachable}
use Rattle.icu_table_data.proofs.reachable_weights.collect_weights.Goals as goal

pub returns : goal.returns
returns g c =
    collected_reachable g.W.Weigh.weight c.args.weigh.now c.args.falls_back (data_of c.args.home) _ _ _ c.over-collector.ensures.weigh c.over-collector.ensures.weights
    c.visit_chars-outcome.result _ _ c.visit_chars-outcome.ensures
