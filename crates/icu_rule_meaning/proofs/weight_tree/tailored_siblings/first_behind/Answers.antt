-- The siblings are those of the tree.
use Rattle.std.proofs.Common.{ap, sym, ◌∙◌, take_while}
use Rattle.icu_rule_meaning.specs.SymbolicElements.{has_tailored_weight}
use Rattle.icu_rule_meaning.specs.WeightTrees.{put_behind}
use Rattle.icu_rule_meaning.specs.weight_tree.inner.TailoredSiblings.{first_weight, if_tailored}
use Rattle.icu_rule_meaning.proofs.weight_tree.PositionLemmas.{none_put_behind, tailored_first}
use Rattle.icu_rule_meaning.proofs.weight_tree.tailored_siblings.first_behind.Goals as goal

pub returns-in-Some : goal.returns-in-Some
returns-in-Some c =
    c.if_tailored.ensures
    ∙ (ap if_tailored (c.behind.ensures ∙ ap (λ ys. first_weight (put_behind c.args.w ys)) c.in-Some.ensures)
    ∙ tailored_first _)

pub returns-in-None : goal.returns-in-None
returns-in-None c =
    ap (λ ys. first_weight (take_while has_tailored_weight ys))
    (sym (none_put_behind c.args.w c.args.above.now) ∙ ap (put_behind c.args.w) c.in-None.ensures)
