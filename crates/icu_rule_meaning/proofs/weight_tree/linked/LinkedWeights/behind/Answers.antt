-- The weight behind another is that of the place behind.
use Rattle.std.proofs.Common.{◌∙◌, ap}
use Rattle.icu_rule_meaning.specs.WeightTrees.{put_behind}
use Rattle.icu_rule_meaning.specs.weight_tree.inner.LinkStops.{stop_weight}
use Rattle.icu_rule_meaning.specs.weight_tree.inner.LinkedOrders.{next_in}
use Rattle.icu_rule_meaning.specs.weight_tree.inner.TailoredSiblings.{first_weight}
use Rattle.icu_rule_meaning.proofs.weight_tree.LinkingLemmas.{behind_found, behind_far}
use Rattle.icu_rule_meaning.proofs.weight_tree.linked.LinkedWeights.behind.Goals as goal

pub returns-in-Some : goal.returns-in-Some
returns-in-Some c =
    let es = c.self.inside.links.entries in
    c.stop_weight.ensures ∙ (ap stop_weight (c.next_in.ensures ∙ ap (next_in es) c.in-Some.ensures.some.0)
    ∙ (behind_found es c.self.invariant c.args.w ∙ ap (λ xs. first_weight (put_behind c.args.w xs)) c.self.view_is))

pub returns-in-None : goal.returns-in-None
returns-in-None c =
    behind_far c.self.inside.links.entries c.self.invariant c.args.w c.in-None.ensures.none
    ∙ ap (λ xs. first_weight (put_behind c.args.w xs)) c.self.view_is
