-- The order of symbolic elements, once weights have numbers (UTS #10, "Compare Sort Keys").
use Rattle.std.specs.Prelude.{ℕ, ◌≡◌, ◌<◌, ◌≤◌, ◌⊎◌, ◌==◌, not, List, [], ◌∷◌, ◌++◌, map, filter, take}
use Rattle.std.specs.declared.cmp.Ordering.{Ordering}
use Rattle.std.specs.declared.cmp.Ordering.TheVariants.{Less}
use Rattle.icu_order_levels.specs.ListOrder.{list_order}
use Rattle.icu_rule_meaning.specs.declared.symbolic.SymbolicWeight.{SymbolicWeight}
use Rattle.icu_rule_meaning.specs.declared.symbolic.SymbolicWeight.TheVariants.{Rooted}
use Rattle.icu_rule_meaning.specs.declared.symbolic.SymbolicElement.{SymbolicElement}
use Rattle.icu_rule_meaning.specs.WeightTrees.{WeightTree}

-- a number for each weight, which is given with the weights of the levels before it
abbrev pub Numbering : Type 0
Numbering = List SymbolicWeight → ℕ

-- a weight is among siblings
abbrev pub IsAmongWeights : SymbolicWeight → List SymbolicWeight → Type 0
IsAmongWeights w [] = ⊥
IsAmongWeights w (v ∷ siblings) = (v ≡ w) ⊎ IsAmongWeights w siblings

-- one weight stands before another among siblings
abbrev pub IsOrderedBefore : SymbolicWeight → SymbolicWeight → List SymbolicWeight → Type 0
IsOrderedBefore v w [] = ⊥
IsOrderedBefore v w (x ∷ siblings) = ((x ≡ v) × IsAmongWeights w siblings) ⊎ IsOrderedBefore v w siblings

-- the weight 0 has the number 0, and numbers ascend among siblings
pub record NumbersTree (tree : WeightTree) (numbering : Numbering) : Type 0 where
  pub zero : (above : List SymbolicWeight) → numbering (above ++ Rooted 0 ∷ []) ≡ 0
  pub ascends : (above : List SymbolicWeight) (v w : SymbolicWeight) → IsOrderedBefore v w (tree above)
      → numbering (above ++ v ∷ []) < numbering (above ++ w ∷ [])

-- the weights of each element
abbrev pub weights_in : List SymbolicElement → List (List SymbolicWeight)
weights_in = map (λ (e : SymbolicElement). e.weights)

-- the numbers of elements at a level, without zeros (UTS #10, "Form Sort Keys")
abbrev pub level_numbers : Numbering → ℕ → List SymbolicElement → List ℕ
level_numbers numbering level es = filter (λ w. not (w == 0)) (map (λ ws. numbering (take level ws)) (weights_in es))

-- the order of elements at a level
abbrev pub level_order : Numbering → ℕ → List SymbolicElement → List SymbolicElement → Ordering
level_order numbering level es fs = list_order (level_numbers numbering level es) (level_numbers numbering level fs)

-- what stands before another weight in one order does so in the other
abbrev pub KeepsOrder : WeightTree → WeightTree → Type 0
KeepsOrder tree later = (above : List SymbolicWeight) (v w : SymbolicWeight)
    → IsOrderedBefore v w (tree above) → IsOrderedBefore v w (later above)

-- elements are the same on the levels before this one, and the first are less here
pub record AreLessAt (numbering : Numbering) (level : ℕ) (es fs : List SymbolicElement) : Type 0 where
  pub same : (before : ℕ) → 1 ≤ before → before < level
      → level_numbers numbering before es ≡ level_numbers numbering before fs
  pub less : level_order numbering level es fs ≡ Less
