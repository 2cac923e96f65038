-- The tree of weights that a builder holds, and what `[before n]` asks of it.
use Rattle.std.specs.Prelude.{ℕ, [], List, take, unwrap_or, vec_len}
use Rattle.icu_rule_meaning.specs.declared.symbolic.SymbolicWeight.{SymbolicWeight}
use Rattle.icu_rule_meaning.specs.WeightTrees.{WeightTree, with_weights, directly_before, above_level, weight_at_level}
use Rattle.icu_rule_meaning.specs.TailoredRoots.{Root}
use Rattle.icu_rule_meaning.specs.Steps.{with_lesser}
use Rattle.icu_rule_meaning.specs.declared.weight_tree.tree.WeightTreeBuilder.{WeightTreeBuilder}
use Rattle.icu_rule_meaning.specs.weight_tree.BuiltTrees.{tree_in}

-- the tree
abbrev pub tree_of : WeightTreeBuilder → WeightTree
tree_of b = tree_in b.lists.entries

-- how many tailored weights were made
abbrev pub made_of : WeightTreeBuilder → ℕ
made_of b = vec_len b.levels

-- A tree in which the weight of a level stands in its place with those of the levels before, and the next lesser one of
-- the root before it.
abbrev pub tree_before : Root → WeightTree → ℕ → List SymbolicWeight → WeightTree
tree_before root tree level weights =
    with_lesser root (with_weights tree [] (take level weights)) (above_level level weights) (weight_at_level level weights)

-- the weight directly before that of a level in this tree; itself where there is none
abbrev pub weight_in_front : Root → WeightTree → ℕ → List SymbolicWeight → SymbolicWeight
weight_in_front root tree level weights =
    let w = weight_at_level level weights in
    unwrap_or (directly_before w (tree_before root tree level weights (above_level level weights))) w
