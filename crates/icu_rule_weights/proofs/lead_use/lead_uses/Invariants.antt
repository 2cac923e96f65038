use Rattle.std.proofs.Common.{ℕ, ◌≡◌, ◌<◌, length, get_or}
use Rattle.icu_rule_weights.specs.LevelGaps.{AreLevelWeights}
use Rattle.icu_rule_weights.specs.inner.LeadUses.{IsUsedBy}
use Rattle.icu_rule_weights.proofs.lead_use.lead_uses.Given as goal

abbrev pub invariant-loop-weight : goal.invariant-loop-weight
invariant-loop-weight l = record {
  long : length l.uses ≡ 256;
  used : AreLevelWeights l.weights → (k : ℕ) → k < l.weight-index → IsUsedBy l.uses (get_or l.weights k 0);
}
