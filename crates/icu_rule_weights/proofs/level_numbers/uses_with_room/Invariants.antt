use Rattle.std.specs.List.{All}
use Rattle.icu_rule_weights.specs.LevelGaps.{AreLevelWeights}
use Rattle.icu_rule_weights.specs.inner.LeadUses.{IsUsedBy}
use Rattle.icu_rule_weights.proofs.level_numbers.uses_with_room.Given as goal

abbrev pub invariant-loop-gap : goal.invariant-loop-gap
invariant-loop-gap l = AreLevelWeights l.fn.root → All (IsUsedBy l.uses) l.fn.root
