use Rattle.icu_table_data.specs.inner.Visitors.{holds}
use Rattle.icu_table_data.proofs.ImplicitLemmas.{collects_nothing}
use Rattle.icu_table_data.proofs.reachable_weights.CollectorVisit.passes_implicit.Goals as goal

pub returns : goal.returns
returns g c = λ passes home char e is. collects_nothing g.W.Weigh.weight c.args.self.now.weigh.now (holds (g.H.HoldWeights.weights c.args.self.now.weights)) home char e is
