use Rattle.std.proofs.Common.{◌≡◌, true, sym, ◌∙◌}
use Rattle.icu_table_data.specs.Reachable.{goes_by_character}
use Rattle.icu_table_data.specs.StoredData.{data_of}
use Rattle.icu_table_data.specs.inner.Visitors.{holds}
use Rattle.icu_table_data.proofs.CollectedWeightLemmas.{passes_primaries}
use Rattle.icu_table_data.proofs.ImplicitLemmas.{collects_nothing}
use Rattle.icu_table_data.proofs.reachable_weights.CollectorVisit.passes_run.Goals as goal

pub returns-in-Implicit : goal.returns-in-Implicit
returns-in-Implicit g c passes char low high =
    collects_nothing g.W.Weigh.weight c.args.self.now.weigh.now (holds (g.H.HoldWeights.weights c.args.self.now.weights)) (data_of c.args._home) char c.args.entry (sym c.kind.ensures ∙ c.in-Implicit.is)

pub returns-else-weighs_primaries : goal.returns-else-weighs_primaries
returns-else-weighs_primaries g c goes char low high =
    let by : goes_by_character c.args.entry ≡ true = sym c.goes_by_character.ensures ∙ goes in
    passes_primaries g.W.Weigh.weight c.args.self.now.weigh.now (c.weighs_primaries.ensures c.if-weighs_primaries.false) (holds (g.H.HoldWeights.weights c.args.self.now.weights)) (data_of c.args._home) char c.args.entry by
