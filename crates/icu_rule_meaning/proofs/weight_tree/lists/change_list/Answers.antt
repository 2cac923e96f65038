-- The list that is changed is that of the tree.
use Rattle.std.proofs.Common.{◌≡◌, ap, sym, ◌∙◌, rules}
use Rattle.std.specs.BTreeMap.{insert_entry}
use Rattle.icu_rule_meaning.specs.weight_tree.BuiltTrees.{tree_in}
use Rattle.icu_rule_meaning.specs.weight_tree.inner.SiblingChanges.{changed}
use Rattle.icu_rule_meaning.proofs.weight_tree.ParentOrderLemmas.{parents_order}
use Rattle.icu_rule_meaning.proofs.weight_tree.ListedTreeLemmas.{tree_written, tree_begun}
use Rattle.icu_rule_meaning.proofs.weight_tree.lists.change_list.Goals as goal

pub returns-in-Some : goal.returns-in-Some
returns-in-Some c =
    ap tree_in (c.get_mut.follows.holds c.change.new.self).0
    ∙ tree_written c.args.lists.now.entries c.parents_of-parents.result c.args.above.now c.in-Some.siblings.now c.change.new.self
    (changed c.args.change) c.parents_of-parents.ensures (sym c.in-Some.ensures.value) c.in_ok-change.ensures

pub returns : goal.returns
returns c =
    let same : c.get_mut.follows.lender-at-none.entries ≡ c.args.lists.now.entries = search rules in
    ap tree_in (c.in_ok-insert.ensures.entries
    ∙ ap (λ es. insert_entry parents_order es c.parents_of-parents.result c.change-2.new.self) same)
    ∙ tree_begun c.args.lists.now.entries c.parents_of-parents.result c.args.above.now c.change-2.new.self
    (changed c.args.change) c.parents_of-parents.ensures (sym c.in_default.ensures.value)
    (c.in_ok-change-2.ensures ∙ ap (changed c.args.change) c.in_ok-weights.ensures)
