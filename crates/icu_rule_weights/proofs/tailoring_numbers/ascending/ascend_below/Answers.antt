-- The siblings below one more.
use Rattle.std.proofs.Common.{◌≡◌, ◌+◌, true, List, take, get_or, sym, ap, ◌∙◌, subst, rules}
use Rattle.std.proofs.lemmas.List.{take_more, take_all}
use Rattle.icu_rule_meaning.specs.declared.symbolic.SymbolicWeight.{SymbolicWeight}
use Rattle.icu_rule_meaning.specs.declared.weight_tree.parents.Parents.{Parents}
use Rattle.icu_rule_meaning.specs.declared.weight_tree.parents.Parents.TheVariants.{Nothing}
use Rattle.icu_rule_meaning.specs.weight_tree.BuiltTrees.{parent_weights}
use Rattle.icu_rule_meaning.specs.weight_tree.TreeBuilders.{tree_of}
use Rattle.icu_rule_weights.specs.tailoring_numbers.inner.AscendingTests.{ascend_all, AscendBelow}
use Rattle.icu_rule_weights.proofs.tailoring_numbers.AscendingNumberLemmas.{below_more}
use Rattle.icu_rule_weights.proofs.tailoring_numbers.ascending.ascend_below.Goals as goal

pub loop-parents-preserved : goal.loop-parents-preserved
loop-parents-preserved g c =
    let root = g.R.RootWeights.root c.args.root.now in
    let t = c.args.numbers.now in
    let tree = tree_of c.args.tree.now in
    let ps : List Parents = c.args.begun.now in
    let i = c.loop-parents.parents-index in
    let p : Parents = get_or ps i Nothing in
    subst (AscendBelow root t tree) (sym (take_more ps i Nothing c.loop-parents-test.true))
    (below_more root t tree (take i ps) p c.loop-parents.invariant
    (ap (ascend_all root (parent_weights p) t) (sym (c.as_slice.ensures.value ∙ c.in_ok-siblings.ensures)) ∙ (sym c.ascend_among.ensures ∙ c.if-not-ascend_among.false)))

pub returns : goal.returns
returns g c =
    let root = g.R.RootWeights.root c.args.root.now in
    let ps : List Parents = c.args.begun.now in
    subst (AscendBelow root c.args.numbers.now (tree_of c.args.tree.now)) (take_all c.loop-parents.parents-index ps c.loop-parents-test.false)
    c.loop-parents.invariant
