-- Which numbers weights get doesn't matter (UTS #35 part 5, "Collation Tailorings"; UTS #10, "Compare Sort Keys").
use Rattle.std.specs.Prelude.{ℕ, zero, suc, ◌≡◌, ◌≢◌, ◌<◌, ◌≤◌, List, [], ◌∷◌, ◌++◌}
use Rattle.std.specs.List.{AllByRecursion}
use Rattle.std.specs.Ordering.{ordering_then}
use Rattle.std.specs.declared.cmp.Ordering.{Ordering}
use Rattle.std.specs.declared.cmp.Ordering.TheVariants.{Equal}
use Rattle.icu_rule_meaning.specs.declared.symbolic.SymbolicWeight.{SymbolicWeight}
use Rattle.icu_rule_meaning.specs.declared.symbolic.SymbolicWeight.TheVariants.{Rooted}
use Rattle.icu_rule_meaning.specs.declared.symbolic.SymbolicElement.{SymbolicElement}
use Rattle.icu_rule_meaning.specs.WeightTrees.{WeightTree}
use Rattle.icu_rule_meaning.specs.SymbolicOrders.{Numbering, NumbersTree, IsAmongWeights, level_order}

-- The weights of an element's first three levels stand in a tree, each below those before it. Where one of them is 0,
-- so are those before it (UTS #10, "Well-Formedness of Collation Element Tables").
pub record StandsInTree (tree : WeightTree) (e : SymbolicElement) : Type 0 where
  pub primary : SymbolicWeight
  pub secondary : SymbolicWeight
  pub tertiary : SymbolicWeight
  pub others : List SymbolicWeight
  pub weights : e.weights ≡ primary ∷ secondary ∷ tertiary ∷ others
  pub has_primary : IsAmongWeights primary (tree [])
  pub has_secondary : IsAmongWeights secondary (tree (primary ∷ []))
  pub has_tertiary : IsAmongWeights tertiary (tree (primary ∷ secondary ∷ []))
  pub no_primary : secondary ≡ Rooted 0 → primary ≡ Rooted 0
  pub no_secondary : tertiary ≡ Rooted 0 → secondary ≡ Rooted 0

-- all elements stand in a tree
abbrev pub StandInTree : WeightTree → List SymbolicElement → Type 0
StandInTree tree = AllByRecursion (StandsInTree tree)

-- Numbers of a tree by which its elements may be ordered (UTS #10, "Well-Formedness of Collation Element Tables"). They
-- ascend among siblings, and none but the weight 0 has the number 0. The weights of elements that have none at the
-- level before are above those of all others.
pub record OrdersElements (tree : WeightTree) (numbering : Numbering) : Type 0 where
  pub numbers : NumbersTree tree numbering
  pub counts : (above : List SymbolicWeight) (w : SymbolicWeight) → IsAmongWeights w (tree above) → w ≢ Rooted 0
      → numbering (above ++ w ∷ []) ≢ 0
  pub secondaries : (primary w alone : SymbolicWeight) → primary ≢ Rooted 0
      → IsAmongWeights w (tree (primary ∷ [])) → IsAmongWeights alone (tree (Rooted 0 ∷ [])) → alone ≢ Rooted 0
      → numbering (primary ∷ w ∷ []) < numbering (Rooted 0 ∷ alone ∷ [])
  pub tertiaries : (primary secondary w alone : SymbolicWeight) → secondary ≢ Rooted 0
      → IsAmongWeights w (tree (primary ∷ secondary ∷ [])) → IsAmongWeights alone (tree (Rooted 0 ∷ Rooted 0 ∷ []))
      → alone ≢ Rooted 0
      → numbering (primary ∷ secondary ∷ w ∷ []) < numbering (Rooted 0 ∷ Rooted 0 ∷ alone ∷ [])

-- the order of elements up to a level: the first level that differs decides
abbrev pub order_up_to : Numbering → ℕ → List SymbolicElement → List SymbolicElement → Ordering
order_up_to numbering zero es fs = Equal
order_up_to numbering (suc level) es fs =
    ordering_then (order_up_to numbering level es fs) (level_order numbering (suc level) es fs)

-- two numberings of a tree order elements alike, up to the tertiary level
abbrev pub NumberingsOrderAlike : Type 0
NumberingsOrderAlike = (tree : WeightTree) (one other : Numbering) (level : ℕ) (es fs : List SymbolicElement)
    → OrdersElements tree one → OrdersElements tree other → level ≤ 3
    → StandInTree tree es → StandInTree tree fs
    → order_up_to one level es fs ≡ order_up_to other level es fs
