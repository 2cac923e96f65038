-- The neighbours of a weight in the root (UTS #35 part 5, "Root Collation").
use Rattle.std.specs.Prelude.{ℕ, ◌≡◌, ◌<◌, List, Option, Some, None, AllPairs, Contains}
use Rattle.icu_rule_meaning.specs.declared.symbolic.SymbolicWeight.{SymbolicWeight}
use Rattle.icu_rule_meaning.specs.declared.symbolic.SymbolicWeight.TheVariants.{Rooted}
use Rattle.icu_rule_meaning.specs.WeightTrees.{WeightTree, with_weight}
use Rattle.icu_rule_meaning.specs.TailoredRoots.{Root, first_above, numbers_of}
use Rattle.icu_rule_meaning.specs.SymbolicOrders.{Numbering, NumbersTree}

-- the next greater weight of the root below weights of the root, if there is one
abbrev pub next_of_root : Root → List SymbolicWeight → ℕ → Option ℕ
next_of_root root above w = elim (numbers_of above) [ None ↦ None | Some numbers ↦ first_above (root.weights numbers) w ]

-- a weight of the root below weights of the root, among which it stands in ascending order
pub record IsOfRoot (root : Root) (above : List SymbolicWeight) (w : ℕ) : Type 0 where
  pub numbers : List ℕ
  pub are : numbers_of above ≡ Some numbers
  pub among : Contains (root.weights numbers) w
  pub ascending : AllPairs (λ u v. u < v) (root.weights numbers)

-- The numbers of a tree are those of the tree with any weight of the root in its place: the number of a tailored weight
-- stands between the same neighbours in the root as the weight in the tree.
abbrev pub KeepsNeighbours : Root → WeightTree → Numbering → Type 0
KeepsNeighbours root tree numbering = (above : List SymbolicWeight) (w : ℕ) → IsOfRoot root above w
    → NumbersTree (with_weight tree above (Rooted w)) numbering
