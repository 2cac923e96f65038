use Rattle.std.proofs.Common.{◌≡◌, ◌-◌}
use Rattle.icu_table_entries.specs.Weights.{offset_element}
use Rattle.icu_table_data.specs.StoredData.{data_of}
use Rattle.icu_table_data.specs.inner.Visitors.{holds}
use Rattle.icu_table_data.proofs.RunLemmas.{RanTo}
use Rattle.icu_table_data.proofs.reachable_weights.CollectorVisit.visit_run.Given as goal

-- the characters so far were visited, and the element is that of the last of them
abbrev pub invariant-loop-code : goal.invariant-loop-code
invariant-loop-code g l = record {
  ran : RanTo g.W.Weigh.weight (data_of l.fn.home) l.fn.first l.fn.entry (l.fn.self.weigh.now, holds (g.H.HoldWeights.weights l.fn.self.weights)) (l.self.weigh.now, holds (g.H.HoldWeights.weights l.self.weights)) (l.code - l.start);
  last : l.element ≡ offset_element l.data (l.code - 1);
}
