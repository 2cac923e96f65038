use Rattle.std.proofs.Common.{ℕ, take}
use Rattle.std.specs.List.{All}
use Rattle.std.specs.Global.{Vec}
use Rattle.icu_rule_weights.specs.LevelGaps.{greatest_second, FillEach}
use Rattle.icu_rule_weights.specs.inner.LeadUses.{IsWrittenBy}
use Rattle.icu_rule_weights.proofs.level_numbers.number_level.Given as goal

abbrev pub invariant-loop-place : goal.invariant-loop-place
invariant-loop-place l = record {
  fill : FillEach (greatest_second l.fn.level) (take l.place l.gaps) l.lists.items;
  written : All (λ (ws : Vec ℕ). All (IsWrittenBy l.uses) ws.items) l.lists.items;
}
