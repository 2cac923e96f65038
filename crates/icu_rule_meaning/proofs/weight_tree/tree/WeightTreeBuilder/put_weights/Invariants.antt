use Rattle.std.proofs.Common.{◌≡◌, ◌≤◌, length}
use Rattle.icu_rule_meaning.specs.weight_tree.TreeBuilders.{tree_of, made_of}
use Rattle.icu_rule_meaning.proofs.weight_tree.TreeLoopLemmas.{put_from}
use Rattle.icu_rule_meaning.proofs.weight_tree.tree.WeightTreeBuilder.put_weights.Given as goal

abbrev pub invariant-loop-i : goal.invariant-loop-i
invariant-loop-i l = record {
  few : l.i ≤ length l.weights;
  tree : put_from (tree_of l.self) l.weights l.i ≡ put_from (tree_of l.initial.self) l.weights 0;
  made : made_of l.self ≡ made_of l.initial.self;
}
