-- Numbers ascend among the siblings of each tree that rules make (UTS #35 part 5, "Collation Tailorings").
use Rattle.std.specs.Prelude.{ℕ, Bool, ◌≡◌, ◌<◌, List, [], ◌∷◌, AllPairs}
use Rattle.std.specs.Global.{Vec}
use Rattle.icu_rule_meaning.specs.declared.symbolic.SymbolicWeight.{SymbolicWeight}
use Rattle.icu_rule_meaning.specs.Rules.{Rule}
use Rattle.icu_rule_meaning.specs.TailoredRoots.{Root}
use Rattle.icu_rule_meaning.specs.Steps.{tailoring_of}
use Rattle.icu_rule_weights.specs.declared.gap_level.GapLevel.{GapLevel}
use Rattle.icu_rule_weights.specs.declared.sibling_run.SiblingRun.{SiblingRun}
use Rattle.icu_rule_weights.specs.GapEnds.{IsBelowNext}
use Rattle.icu_rule_weights.specs.SiblingRuns.{AreRunsOf}
use Rattle.icu_rule_weights.specs.NumberedRuns.{FillRuns, numbers_of_runs}

-- a run whose tailored weights stay below further weights
pub record IsLimited (run limited : SiblingRun) : Type 0 where
  pub rooted : limited.rooted ≡ run.rooted
  pub next : (x : ℕ) → IsBelowNext limited.next x → IsBelowNext run.next x

-- runs whose tailored weights stay below further weights, in turn
abbrev pub AreLimited : List SiblingRun → List SiblingRun → Type 0
AreLimited [] [] = Unit {0}
AreLimited [] (limited ∷ others) = ⊥
AreLimited (run ∷ runs) [] = ⊥
AreLimited (run ∷ runs) (limited ∷ others) = IsLimited run limited × AreLimited runs others

-- whatever the rules are, the numbers of siblings ascend, of those of the root and of tailored ones
abbrev pub NumbersOfTreesAscend : Type 0
NumbersOfTreesAscend = (root : Root) (rules : List Rule) (above : List SymbolicWeight) (alone : Bool) (level : GapLevel)
    (runs limited : List SiblingRun) (lists : List (Vec ℕ))
    → AreRunsOf alone ((tailoring_of root rules).tree above) runs → AreLimited runs limited → FillRuns level limited lists
    → AllPairs (λ v w. v < w) (numbers_of_runs limited lists)
