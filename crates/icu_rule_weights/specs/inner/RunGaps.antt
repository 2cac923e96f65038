-- Gaps for the tailored weights of runs of siblings.
use Rattle.std.specs.Prelude.{ℕ, ◌≡◌, ◌<◌, ◌↔◌, List, [], ◌∷◌, length}
use Rattle.icu_rule_weights.specs.declared.gap_level.GapLevel.{GapLevel}
use Rattle.icu_rule_weights.specs.declared.level_gap.LevelGap.{LevelGap}
use Rattle.icu_rule_weights.specs.declared.sibling_run.SiblingRun.{SiblingRun}
use Rattle.icu_rule_weights.specs.GapEnds.{IsInGap}

-- a gap for the tailored weights of a run
pub record IsGapOfRun (level : GapLevel) (run : SiblingRun) (gap : LevelGap) : Type 0 where
  pub count : gap.count ≡ length run.tailored.now
  pub ends : (x : ℕ) → IsInGap level run.alone run.rooted run.next x ↔ ((gap.low < x) × (x < gap.high))

-- gaps for runs, in turn
abbrev pub AreGapsOfRuns : GapLevel → List SiblingRun → List LevelGap → Type 0
AreGapsOfRuns level [] [] = Unit {0}
AreGapsOfRuns level [] (gap ∷ gaps) = ⊥
AreGapsOfRuns level (run ∷ runs) [] = ⊥
AreGapsOfRuns level (run ∷ runs) (gap ∷ gaps) = IsGapOfRun level run gap × AreGapsOfRuns level runs gaps
