-- Whether numbers ascend among siblings, one after another, below the next weight of the root each.
use Rattle.std.specs.Prelude.{ℕ, Bool, true, false, ◌≡◌, ◌&&◌, nat_lt, List, [], ◌∷◌, Option, Some, None}
use Rattle.icu_rule_meaning.specs.declared.symbolic.SymbolicWeight.{SymbolicWeight}
use Rattle.icu_rule_meaning.specs.declared.symbolic.SymbolicWeight.TheVariants.{Rooted, Tailored}
use Rattle.icu_rule_meaning.specs.WeightTrees.{WeightTree}
use Rattle.icu_rule_meaning.specs.TailoredRoots.{Root}
use Rattle.icu_rule_meaning.specs.declared.weight_tree.parents.Parents.{Parents}
use Rattle.icu_rule_meaning.specs.weight_tree.BuiltTrees.{parent_weights}
use Rattle.icu_rule_weights.specs.declared.tailoring_numbers.tailoring_numbers.TailoringNumbers.{TailoringNumbers}
use Rattle.icu_rule_weights.specs.tailoring_numbers.Numberings.{number_of}
use Rattle.icu_rule_weights.specs.tailoring_numbers.RootNeighbours.{next_of_root}

-- the number of a tailored weight is below the next weight of the root, if there is one
abbrev pub stands_below : SymbolicWeight → Option ℕ → ℕ → Bool
stands_below (Tailored k) (Some next) n = nat_lt n next
stands_below (Tailored k) None n = true
stands_below (Rooted w) next n = true

-- the next weight of the root behind a weight: that of the last one of the root
abbrev pub next_behind : Root → List SymbolicWeight → SymbolicWeight → Option ℕ → Option ℕ
next_behind root above (Rooted w) next = next_of_root root above w
next_behind root above (Tailored k) next = next

-- numbers ascend among siblings behind a number, each of a tailored weight below the next weight of the root
unfoldable pub ascend_above : Root → List SymbolicWeight → TailoringNumbers → ℕ → Option ℕ → List SymbolicWeight → Bool
ascend_above root above t last next [] = true
ascend_above root above t last next (w ∷ siblings) =
    (nat_lt last (number_of t w) && stands_below w next (number_of t w))
    && ascend_above root above t (number_of t w) (next_behind root above w next) siblings

-- numbers ascend among siblings, of which the first is of the root
abbrev pub ascend_all : Root → List SymbolicWeight → TailoringNumbers → List SymbolicWeight → Bool
ascend_all root above t [] = true
ascend_all root above t (Rooted w ∷ siblings) = ascend_above root above t w (next_of_root root above w) siblings
ascend_all root above t (Tailored k ∷ siblings) = false

-- numbers ascend below parents
abbrev pub AscendBelow : Root → TailoringNumbers → WeightTree → List Parents → Type 0
AscendBelow root t tree [] = Unit {0}
AscendBelow root t tree (parents ∷ others) =
    (ascend_all root (parent_weights parents) t (tree (parent_weights parents)) ≡ true) × AscendBelow root t tree others
