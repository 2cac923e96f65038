-- The siblings are those of the tree.
use Rattle.std.proofs.Common.{ap, ◌∙◌}
use Rattle.icu_rule_meaning.specs.SymbolicElements.{common_below}
use Rattle.icu_rule_meaning.specs.RootPositions.{last_weight}
use Rattle.icu_rule_meaning.specs.weight_tree.BuiltTrees.{sibling_weights}
use Rattle.icu_rule_meaning.proofs.weight_tree.PositionLemmas.{last_of_first}
use Rattle.icu_rule_meaning.proofs.weight_tree.tailored_siblings.last_below.Goals as goal

pub returns-in-Some : goal.returns-in-Some
returns-in-Some c =
    c.last_or.ensures
    ∙ (ap (λ w. last_weight w (sibling_weights c.in-Some.siblings.now)) c.common_weight-common.ensures ∙ ap (last_weight (common_below c.args.above.now)) c.in-Some.ensures)

pub returns-in-None : goal.returns-in-None
returns-in-None c =
    c.common_weight-common.ensures
    ∙ (last_of_first c.args.above.now ∙ ap (last_weight (common_below c.args.above.now)) c.in-None.ensures)
