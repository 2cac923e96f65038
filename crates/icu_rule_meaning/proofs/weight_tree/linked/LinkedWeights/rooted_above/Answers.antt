-- The first greater weight of the root is that of the least greater place in the map.
use Rattle.std.proofs.Common.{◌∙◌, ap}
use Rattle.icu_rule_meaning.specs.weight_tree.inner.LinkStops.{rooted_above}
use Rattle.icu_rule_meaning.proofs.weight_tree.LinkingLemmas.{above_first_found, above_none_found}
use Rattle.icu_rule_meaning.proofs.weight_tree.linked.LinkedWeights.rooted_above.Goals as goal

pub returns-in-Some : goal.returns-in-Some
returns-in-Some c =
    c.rooted_or_end.ensures
    ∙ (above_first_found c.self.inside.links c.self.invariant c.args.w c.range.result (c.range.ensures.in_range tt) _ _ _ c.in-Some.ensures.steps
    ∙ ap (rooted_above c.args.w) c.self.view_is)

pub returns-in-None : goal.returns-in-None
returns-in-None c =
    above_none_found c.self.inside.links c.self.invariant c.args.w c.range.result (c.range.ensures.in_range tt) c.in-None.ensures.steps.0
    ∙ ap (rooted_above c.args.w) c.self.view_is
