-- Weights are put where the definition has them, one after another.
use Rattle.std.proofs.Common.{get_or, sym, ◌∙◌, arith}
use Rattle.std.proofs.lemmas.List.{get_or_default}
use Rattle.icu_rule_meaning.specs.declared.symbolic.SymbolicWeight.TheVariants.{Rooted}
use Rattle.icu_rule_meaning.specs.weight_tree.TreeBuilders.{tree_of}
use Rattle.icu_rule_meaning.proofs.weight_tree.TreeLoopLemmas.{put_further, put_at_end}
use Rattle.icu_rule_meaning.proofs.weight_tree.tree.WeightTreeBuilder.put_weights.Goals as goal

pub loop-i-preserved : goal.loop-i-preserved
loop-i-preserved c =
    let weights = c.args.weights.now in
    let w = get_or weights c.loop-i.i (Rooted 0) in
    record {
      few = omega arith;
      tree =
          put_further (tree_of c.loop-i.self) (tree_of c.put_weight.new.self) weights c.loop-i.i w c.loop-i-test.true
          (get_or_default weights c.loop-i.i (Rooted 0) w c.loop-i-test.true) c.in_ok-put_weight.ensures.tree
          ∙ c.loop-i.invariant.tree;
      made = c.put_weight.ensures.made ∙ c.loop-i.invariant.made;
    }

pub returns-clause-tree : goal.returns-clause-tree
returns-clause-tree c =
    sym (put_at_end (tree_of c.loop-i.self) c.args.weights.now c.loop-i.i (omega arith)) ∙ c.loop-i.invariant.tree
