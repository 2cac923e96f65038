-- One more weight of the row is linked.
use Rattle.std.proofs.Common.{[], ◌∷◌, ◌++◌, get_or, ◌∙◌, ap, sym}
use Rattle.std.proofs.lemmas.List.{take_more, take_all}
use Rattle.icu_rule_meaning.specs.declared.symbolic.SymbolicWeight.TheVariants.{Rooted}
use Rattle.icu_rule_meaning.proofs.weight_tree.LinkingLemmas.{pushed}
use Rattle.icu_rule_meaning.proofs.weight_tree.linked.linked.Goals as goal

pub loop-w-preserved : goal.loop-w-preserved
loop-w-preserved c =
    pushed _ _ _ c.if-not-branch.false c.in_ok-try_push.ensures
    ∙ (ap (λ ys. ys ++ get_or c.args.row.now c.loop-w.w-index (Rooted 0) ∷ []) c.loop-w.invariant ∙ sym (take_more c.args.row.now c.loop-w.w-index (Rooted 0) c.loop-w-test.true))

pub returns : goal.returns
returns c = c.loop-w.invariant ∙ take_all c.loop-w.w-index c.args.row.now c.loop-w-test.false
