-- The tree of weights, as lists of siblings that were begun.
use Rattle.std.specs.Prelude.{◌≡◌, ◌⊎◌, Bool, List, [], ◌∷◌, Option, Some, None}
use Rattle.std.specs.Map.{lookup}
use Rattle.icu_rule_meaning.specs.declared.symbolic.SymbolicWeight.{SymbolicWeight}
use Rattle.icu_rule_meaning.specs.SymbolicElements.{are_same_weights}
use Rattle.icu_rule_meaning.specs.WeightTrees.{WeightTree, first_tree}
use Rattle.icu_rule_meaning.specs.declared.weight_tree.parents.Parents.{Parents}
use Rattle.icu_rule_meaning.specs.declared.weight_tree.parents.Parents.TheVariants.{Nothing, Primary, Secondary, Tertiary}
use Rattle.icu_rule_meaning.specs.declared.weight_tree.siblings.Siblings.{Siblings}
use Rattle.icu_rule_meaning.specs.declared.weight_tree.siblings.Siblings.TheVariants.{Listed, Linked}

-- weights one below another
abbrev pub parent_weights : Parents → List SymbolicWeight
parent_weights Nothing = []
parent_weights (Primary p) = p ∷ []
parent_weights (Secondary p s) = p ∷ s ∷ []
parent_weights (Tertiary p s t) = p ∷ s ∷ t ∷ []

-- these are the weights of the parents
abbrev pub are_parents : List SymbolicWeight → Parents → Bool
are_parents above parents = are_same_weights above (parent_weights parents)

-- the weights of a list
abbrev pub sibling_weights : Siblings → List SymbolicWeight
sibling_weights (Listed weights) = weights.items
sibling_weights (Linked weights) = weights

-- the siblings of a list, if it was begun; else the common weight alone
abbrev pub begun_siblings : List SymbolicWeight → Option Siblings → List SymbolicWeight
begun_siblings above None = first_tree above
begun_siblings above (Some siblings) = sibling_weights siblings

-- the tree that lists of siblings are of
abbrev pub tree_in : List (Parents × Siblings) → WeightTree
tree_in lists above = begun_siblings above (lookup (are_parents above) lists)

-- these weights are among parents
abbrev pub IsAmongParents : List SymbolicWeight → List Parents → Type 0
IsAmongParents above [] = ⊥
IsAmongParents above (parents ∷ others) = (parent_weights parents ≡ above) ⊎ IsAmongParents above others

-- below all weights but these parents a tree has what it has before any rule
abbrev pub AreBegun : WeightTree → List Parents → Type 0
AreBegun tree begun = (above : List SymbolicWeight) → IsAmongParents above begun ⊎ (tree above ≡ first_tree above)
