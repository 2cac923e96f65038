use Rattle.std.proofs.Common.{◌≡◌, ◌<◌, ◌≤◌, vec_len}
use Rattle.std.specs.List.{All, AllPairs}
use Rattle.icu_rule_weights.specs.LevelGaps.{HasSecondByte}
use Rattle.icu_rule_weights.specs.inner.LeadUses.{IsWrittenBy}
use Rattle.icu_rule_weights.proofs.level_gap.level_weights.Given as goal

abbrev pub invariant-loop-have : goal.invariant-loop-have
invariant-loop-have l = record {
  so_many : vec_len l.weights ≡ l.have;
  from : l.gap.low ≤ l.last;
  above : All (λ w. l.gap.low < w) l.weights.items;
  ascending : AllPairs (λ v w. v < w) l.weights.items;
  up_to : All (λ w. w ≤ l.last) l.weights.items;
  below : All (λ w. w < l.gap.high) l.weights.items;
  seconds : All (HasSecondByte l.greatest) l.weights.items;
  written : All (IsWrittenBy l.uses) l.weights.items;
}
