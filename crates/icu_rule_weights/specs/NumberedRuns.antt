-- Numbers for the tailored weights of runs of siblings (UTS #35 part 5, "Collation Tailorings").
use Rattle.std.specs.Prelude.{ℕ, ◌≡◌, ◌<◌, List, [], ◌∷◌, ◌++◌, length, All, AllPairs}
use Rattle.std.specs.Global.{Vec}
use Rattle.icu_rule_weights.specs.declared.gap_level.GapLevel.{GapLevel}
use Rattle.icu_rule_weights.specs.declared.sibling_run.SiblingRun.{SiblingRun}
use Rattle.icu_rule_weights.specs.GapEnds.{IsBelowNext, IsInGap}
use Rattle.icu_rule_weights.specs.LevelGaps.{HasSecondByte, greatest_second}

-- numbers for the tailored weights of a run
pub record FillsRun (level : GapLevel) (run : SiblingRun) (ws : List ℕ) : Type 0 where
  pub so_many : length ws ≡ length run.tailored.now
  pub ascending : AllPairs (λ v w. v < w) ws
  pub inside : All (IsInGap level run.alone run.rooted run.next) ws
  pub seconds : All (HasSecondByte (greatest_second level)) ws

-- each run has its numbers, in turn
abbrev pub FillRuns : GapLevel → List SiblingRun → List (Vec ℕ) → Type 0
FillRuns level [] [] = Unit {0}
FillRuns level [] (ws ∷ lists) = ⊥
FillRuns level (run ∷ runs) [] = ⊥
FillRuns level (run ∷ runs) (ws ∷ lists) = FillsRun level run ws.items × FillRuns level runs lists

-- runs of siblings whose weights of the root ascend, where what is below the next weight of a run is below the next run
abbrev pub AscendInRuns : List SiblingRun → Type 0
AscendInRuns [] = Unit {0}
AscendInRuns (run ∷ []) = Unit {0}
AscendInRuns (run ∷ next ∷ runs) =
    (run.rooted < next.rooted) × ((x : ℕ) → IsBelowNext run.next x → x < next.rooted) × AscendInRuns (next ∷ runs)

-- the numbers of siblings
abbrev pub numbers_of_runs : List SiblingRun → List (Vec ℕ) → List ℕ
numbers_of_runs [] lists = []
numbers_of_runs (run ∷ runs) [] = run.rooted ∷ numbers_of_runs runs []
numbers_of_runs (run ∷ runs) (ws ∷ lists) = run.rooted ∷ (ws.items ++ numbers_of_runs runs lists)

-- the numbers of siblings ascend
abbrev pub NumbersAscend : Type 0
NumbersAscend = (level : GapLevel) (runs : List SiblingRun) (lists : List (Vec ℕ))
    → AscendInRuns runs → FillRuns level runs lists → AllPairs (λ v w. v < w) (numbers_of_runs runs lists)
