-- The weights of the root ascend from run to run, so that numbers ascend among siblings.
use Rattle.std.proofs.Common.{ℕ, ◌<◌, inl, inr, List, [], ◌∷◌, ◌++◌, Option, None, refl, sym, subst}
use Rattle.icu_rule_meaning.specs.declared.symbolic.SymbolicWeight.{SymbolicWeight}
use Rattle.icu_rule_meaning.specs.declared.symbolic.SymbolicWeight.TheVariants.{Rooted}
use Rattle.icu_rule_meaning.specs.SymbolicOrders.{IsAmongWeights, IsOrderedBefore}
use Rattle.icu_rule_meaning.specs.AscendingLaws.{WeightsOfTheRootAscend}
use Rattle.icu_rule_weights.specs.declared.sibling_run.SiblingRun.{SiblingRun}
use Rattle.icu_rule_weights.specs.GapEnds.{IsBelowNext}
use Rattle.icu_rule_weights.specs.NumberedRuns.{AscendInRuns}
use Rattle.icu_rule_weights.specs.SiblingRuns.{joined_runs, HaveNexts}
use Rattle.icu_rule_weights.specs.SiblingNumberLaws.{AreLimited, NumbersOfTreesAscend}
use Rattle.icu_rule_weights.proofs.NumberedRunLemmas.{ascend}

-- the weights of the root among siblings ascend
abbrev RootAscends : List SymbolicWeight → Type 0
RootAscends siblings = (v w : ℕ) → IsOrderedBefore (Rooted v) (Rooted w) siblings → v < w

among_behind : (w : SymbolicWeight) (xs ys : List SymbolicWeight) → IsAmongWeights w ys → IsAmongWeights w (xs ++ ys)
among_behind w [] ys among = among
among_behind w (x ∷ xs) ys among = inr (among_behind w xs ys among)

ordered_behind : (v w : SymbolicWeight) (xs ys : List SymbolicWeight) → IsOrderedBefore v w ys → IsOrderedBefore v w (xs ++ ys)
ordered_behind v w [] ys ordered = ordered
ordered_behind v w (x ∷ xs) ys ordered = inr (ordered_behind v w xs ys ordered)

runs_ascend : (runs limited : List SiblingRun) (last : Option ℕ) → HaveNexts runs last → RootAscends (joined_runs runs)
    → AreLimited runs limited → AscendInRuns limited
runs_ascend [] [] last nexts root are = tt
runs_ascend [] (x ∷ others) last nexts root are = absurd are
runs_ascend (run ∷ runs) [] last nexts root are = absurd are
runs_ascend (run ∷ []) (x ∷ []) last nexts root are = tt
runs_ascend (run ∷ []) (x ∷ (y ∷ others)) last nexts root are = absurd are.1
runs_ascend (run ∷ (next ∷ runs)) (x ∷ []) last nexts root are = absurd are.1
runs_ascend (run ∷ (next ∷ runs)) (x ∷ (y ∷ others)) last nexts root are =
    let rest : List SymbolicWeight = joined_runs (next ∷ runs) in
    let less : run.rooted < next.rooted =
    root run.rooted next.rooted (inl (refl, among_behind (Rooted next.rooted) run.tailored.now rest (inl refl))) in
    let less_limited : x.rooted < y.rooted =
    subst (λ n. n < y.rooted) (sym are.0.rooted) (subst (λ n. run.rooted < n) (sym are.1.0.rooted) less) in (
      less_limited,
      λ n below. subst (λ m. n < m) (sym are.1.0.rooted)
          (subst (λ (bound : Option ℕ). IsBelowNext bound n) nexts.0 (are.0.next n below)),
      runs_ascend (next ∷ runs) (y ∷ others) last nexts.1
          (λ v w ordered. root v w (inr (ordered_behind (Rooted v) (Rooted w) run.tailored.now rest ordered))) are.1,
    )

pub numbers_of_trees_ascend : WeightsOfTheRootAscend → NumbersOfTreesAscend
numbers_of_trees_ascend ordered root rules above alone level runs limited lists are within fills =
    ascend level limited lists (runs_ascend runs limited None are.nexts root_ascends within) fills
  where
    root_ascends : RootAscends (joined_runs runs)
    root_ascends v w before =
        ordered root rules above v w (subst (IsOrderedBefore (Rooted v) (Rooted w)) are.whole before)
