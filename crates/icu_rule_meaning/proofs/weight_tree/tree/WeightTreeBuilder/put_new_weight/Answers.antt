-- The new weight is put where the definition has it.
use Rattle.std.proofs.Common.{ap, ◌∙◌}
use Rattle.icu_rule_meaning.specs.declared.symbolic.SymbolicWeight.TheVariants.{Tailored}
use Rattle.icu_rule_meaning.specs.WeightTrees.{with_new_weight}
use Rattle.icu_rule_meaning.specs.weight_tree.BuiltTrees.{tree_in}
use Rattle.icu_rule_meaning.specs.weight_tree.TreeBuilders.{tree_of}
use Rattle.icu_rule_meaning.proofs.weight_tree.TreeLoopLemmas.{put_new}
use Rattle.icu_rule_meaning.proofs.weight_tree.tree.WeightTreeBuilder.put_new_weight.Goals as goal

pub returns-clause-tree : goal.returns-clause-tree
returns-clause-tree c =
    put_new (tree_of c.args.self.now) (tree_of c.put_weights.new.self) (tree_in c.change_list.new.lists.entries)
    c.args.weights.now c.args.level c.from-count.result c.len-new.result c.from-count.ensures
    c.in_ok-put_weights.ensures.tree c.in_ok-change_list.ensures
    ∙ ap (λ made. with_new_weight (tree_of c.args.self.now) c.args.level c.args.weights.now (Tailored made)) c.len-new.ensures
