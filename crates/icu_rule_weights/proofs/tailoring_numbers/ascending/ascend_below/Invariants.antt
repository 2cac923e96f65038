use Rattle.std.proofs.Common.{take}
use Rattle.icu_rule_meaning.specs.weight_tree.TreeBuilders.{tree_of}
use Rattle.icu_rule_weights.specs.tailoring_numbers.inner.AscendingTests.{AscendBelow}
use Rattle.icu_rule_weights.proofs.tailoring_numbers.ascending.ascend_below.Given as goal

abbrev pub invariant-loop-parents : goal.invariant-loop-parents
invariant-loop-parents g l = AscendBelow (g.R.RootWeights.root l.root) l.numbers (tree_of l.tree) (take l.parents-index l.begun)
