-- The weight before another is that of the place before.
use Rattle.std.proofs.Common.{◌∙◌, ap}
use Rattle.icu_rule_meaning.specs.WeightTrees.{directly_before}
use Rattle.icu_rule_meaning.specs.weight_tree.inner.LinkStops.{stop_weight}
use Rattle.icu_rule_meaning.specs.weight_tree.inner.LinkedOrders.{prev_in}
use Rattle.icu_rule_meaning.proofs.weight_tree.LinkingLemmas.{before_found, before_far}
use Rattle.icu_rule_meaning.proofs.weight_tree.linked.LinkedWeights.before.Goals as goal

pub returns-in-Some : goal.returns-in-Some
returns-in-Some c =
    let es = c.self.inside.links.entries in
    c.stop_weight.ensures ∙ (ap stop_weight (c.prev_in.ensures ∙ ap (prev_in es) c.in-Some.ensures.some.0)
    ∙ (before_found es c.self.invariant c.args.w ∙ ap (directly_before c.args.w) c.self.view_is))

pub returns-in-None : goal.returns-in-None
returns-in-None c =
    before_far c.self.inside.links.entries c.self.invariant c.args.w c.in-None.ensures.none ∙ ap (directly_before c.args.w) c.self.view_is
