-- The first run of siblings.
use Rattle.std.specs.Prelude.{ℕ, Bool, ◌≡◌, List, [], ◌∷◌, ◌++◌, Option, Some, None}
use Rattle.icu_rule_meaning.specs.declared.symbolic.SymbolicWeight.{SymbolicWeight}
use Rattle.icu_rule_meaning.specs.declared.symbolic.SymbolicWeight.TheVariants.{Rooted, Tailored}
use Rattle.icu_rule_weights.specs.declared.sibling_run.SiblingRun.{SiblingRun}
use Rattle.icu_rule_weights.specs.SiblingRuns.{IsRootedFirst, AreTailored}

-- the first of siblings, if it is of the root
abbrev pub first_rooted : List SymbolicWeight → Option ℕ
first_rooted [] = None
first_rooted (Rooted w ∷ ws) = Some w
first_rooted (Tailored k ∷ ws) = None

-- the first of siblings isn't of the root
abbrev pub HasNoRun : List SymbolicWeight → Type 0
HasNoRun [] = Unit {0}
HasNoRun (Rooted w ∷ ws) = ⊥
HasNoRun (Tailored k ∷ ws) = Unit {0}

-- the first weight of the root among siblings with the tailored ones behind it, and what follows
pub record IsFirstRun (alone : Bool) (siblings : List SymbolicWeight) (run : SiblingRun) (rest : List SymbolicWeight) : Type 0 where
  pub whole : siblings ≡ Rooted run.rooted ∷ (run.tailored.now ++ rest)
  pub tailored : AreTailored run.tailored.now
  pub next : run.next ≡ first_rooted rest
  pub others : IsRootedFirst rest
  pub kind : run.alone ≡ alone
