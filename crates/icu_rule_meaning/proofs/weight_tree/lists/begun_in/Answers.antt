-- All keys are listed.
use Rattle.std.proofs.Common.{sym, subst}
use Rattle.icu_rule_meaning.specs.weight_tree.BuiltTrees.{tree_in, AreBegun}
use Rattle.icu_rule_meaning.proofs.weight_tree.BegunParentLemmas.{are_begun}
use Rattle.icu_rule_meaning.proofs.weight_tree.lists.begun_in.Goals as goal

pub returns : goal.returns
returns c =
    let lists = c.args.lists.now.entries in
    subst (AreBegun (tree_in lists)) (sym c.in_ok-begun.ensures) (are_begun lists)
