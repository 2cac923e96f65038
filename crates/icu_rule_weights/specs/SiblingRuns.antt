-- Siblings in runs: a weight of the root, and the tailored ones directly behind it (UTS #35 part 5, "Collation
-- Tailorings").
use Rattle.std.specs.Prelude.{ℕ, Bool, true, ◌≡◌, List, [], ◌∷◌, ◌++◌, All, Option, Some, None}
use Rattle.icu_rule_meaning.specs.declared.symbolic.SymbolicWeight.{SymbolicWeight}
use Rattle.icu_rule_meaning.specs.declared.symbolic.SymbolicWeight.TheVariants.{Rooted, Tailored}
use Rattle.icu_rule_meaning.specs.SymbolicElements.{has_tailored_weight}
use Rattle.icu_rule_weights.specs.declared.sibling_run.SiblingRun.{SiblingRun}

-- the first of siblings is of the root, if there is one
abbrev pub IsRootedFirst : List SymbolicWeight → Type 0
IsRootedFirst [] = Unit {0}
IsRootedFirst (Rooted w ∷ ws) = Unit {0}
IsRootedFirst (Tailored k ∷ ws) = ⊥

-- tailored weights alone
abbrev pub AreTailored : List SymbolicWeight → Type 0
AreTailored ws = All (λ w. has_tailored_weight w ≡ true) ws

-- siblings in their order
abbrev pub joined_runs : List SiblingRun → List SymbolicWeight
joined_runs [] = []
joined_runs (run ∷ runs) = Rooted run.rooted ∷ (run.tailored.now ++ joined_runs runs)

-- each run has the next weight of the root, the last one this
abbrev pub HaveNexts : List SiblingRun → Option ℕ → Type 0
HaveNexts [] last = Unit {0}
HaveNexts (run ∷ []) last = run.next ≡ last
HaveNexts (run ∷ next ∷ runs) last = (run.next ≡ Some next.rooted) × HaveNexts (next ∷ runs) last

-- siblings in runs
pub record AreRunsOf (alone : Bool) (siblings : List SymbolicWeight) (runs : List SiblingRun) : Type 0 where
  pub whole : joined_runs runs ≡ siblings
  pub tailored : All (λ (run : SiblingRun). AreTailored run.tailored.now) runs
  pub nexts : HaveNexts runs None
  pub kind : All (λ (run : SiblingRun). run.alone ≡ alone) runs
