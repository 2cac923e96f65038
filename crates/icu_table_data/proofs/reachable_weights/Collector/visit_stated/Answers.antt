use Rattle.std.proofs.Common.{rules, ◌≡◌, true, false, sym, ◌∙◌}
use Rattle.icu_table_data.specs.Reachable.{goes_by_character}
use Rattle.icu_table_data.specs.StoredData.{data_of}
use Rattle.icu_table_data.specs.inner.Visitors.{holds}
use Rattle.icu_table_data.proofs.CollectedWeightLemmas.{passes_primaries}
use Rattle.icu_table_data.proofs.reachable_weights.Collector.visit_stated.Goals as goal

pub returns-then-not-weighs_primaries : goal.returns-then-not-weighs_primaries
returns-then-not-weighs_primaries g c =
    let by : goes_by_character c.args.entry ≡ true = sym c.goes_by_character.ensures ∙ c.if-goes_by_character.true in
    let unweighed : c.weighs_primaries.result ≡ false = search rules in
    sym (passes_primaries g.W.Weigh.weight c.args.self.now.weigh.now (c.weighs_primaries.ensures unweighed) (holds (g.H.HoldWeights.weights c.args.self.now.weights)) (data_of c.args.home) c.args.c c.args.entry by)
