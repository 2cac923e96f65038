use Rattle.std.proofs.Common.{◌≡◌, [], length, vec_len}
use Rattle.icu_rule_weights.specs.weight_gaps.GapWeights.{FillsGap, IsPast}
use Rattle.icu_rule_weights.proofs.weight_gaps.GapLemmas.{GoesOnAbove}
use Rattle.icu_rule_weights.proofs.weight_gaps.gap.add_weights.Given as goal

abbrev pub invariant-loop-have : goal.invariant-loop-have
invariant-loop-have l = record {
  fills : FillsGap l.gap.form l.gap.low l.gap.high l.weights.items;
  so_many : vec_len l.weights ≡ l.have;
  past : IsPast l.gap.low l.weights.items l.last;
  best : l.length ≡ l.gap.form.longest → l.fn.weights.items ≡ []
      → GoesOnAbove l.gap.form l.gap.low l.gap.high (length l.weights.items) l.last;
}
