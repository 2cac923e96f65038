use Rattle.std.proofs.Common.{ℕ, ◌<◌, List, length}
use Rattle.icu_rule_weights.specs.weight_gaps.GapWeights.{FillsGap}
use Rattle.icu_rule_weights.proofs.weight_gaps.gap.weights_between.Given as goal

abbrev pub invariant-loop-length : goal.invariant-loop-length
invariant-loop-length l = record {
  fills : FillsGap l.gap.form l.gap.low l.gap.high l.shorter.items;
  none : l.gap.form.longest < l.length → (ws : List ℕ) → FillsGap l.gap.form l.gap.low l.gap.high ws → length ws < l.count;
}
