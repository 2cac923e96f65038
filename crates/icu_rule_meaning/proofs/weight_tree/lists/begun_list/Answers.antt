-- The list that is found is that of the tree.
use Rattle.std.proofs.Common.{sym}
use Rattle.icu_rule_meaning.proofs.weight_tree.ListedTreeLemmas.{found_in_tree}
use Rattle.icu_rule_meaning.proofs.weight_tree.lists.begun_list.Goals as goal

pub returns : goal.returns
returns c =
    sym (found_in_tree c.args.lists.now.entries c.parents_of.result c.args.above.now _ c.parents_of.ensures (sym c.get.ensures.value))
