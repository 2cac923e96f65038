-- The siblings are those of the tree.
use Rattle.std.proofs.Common.{ap, ◌∙◌}
use Rattle.icu_rule_meaning.specs.SymbolicElements.{common_below}
use Rattle.icu_rule_meaning.specs.weight_tree.inner.TailoredSiblings.{first_of_tailored}
use Rattle.icu_rule_meaning.specs.weight_tree.BuiltTrees.{sibling_weights}
use Rattle.icu_rule_meaning.proofs.weight_tree.PositionLemmas.{none_tailored}
use Rattle.icu_rule_meaning.proofs.weight_tree.tailored_siblings.first_below.Goals as goal

pub returns-in-Some : goal.returns-in-Some
returns-in-Some c =
    c.first_tailored.ensures
    ∙ (ap (λ w. first_of_tailored w (sibling_weights c.in-Some.siblings.now)) c.common_weight-common.ensures
    ∙ ap (first_of_tailored (common_below c.args.above.now)) c.in-Some.ensures)

pub returns-in-None : goal.returns-in-None
returns-in-None c =
    c.common_weight-common.ensures
    ∙ (none_tailored c.args.above.now ∙ ap (first_of_tailored (common_below c.args.above.now)) c.in-None.ensures)
