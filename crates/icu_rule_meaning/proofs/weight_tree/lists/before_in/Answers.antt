-- Before any rule nothing stands before a weight.
use Rattle.std.proofs.Common.{ap, sym, ◌∙◌}
use Rattle.icu_rule_meaning.specs.WeightTrees.{directly_before}
use Rattle.icu_rule_meaning.proofs.weight_tree.ListedTreeLemmas.{first_has_none}
use Rattle.icu_rule_meaning.proofs.weight_tree.lists.before_in.Goals as goal

pub returns-in-Some : goal.returns-in-Some
returns-in-Some c = c.before-in-Some.ensures ∙ ap (directly_before c.args.w) c.in-Some.ensures

pub returns-in-None : goal.returns-in-None
returns-in-None c =
    sym (ap (directly_before c.args.w) (sym c.in-None.ensures) ∙ first_has_none c.args.w c.args.above.now)
