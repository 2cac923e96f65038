-- The last weight is before the end.
use Rattle.std.proofs.Common.{◌∙◌, ap, unwrap_or}
use Rattle.icu_rule_meaning.specs.RootPositions.{last_weight}
use Rattle.icu_rule_meaning.specs.weight_tree.inner.LinkStops.{stop_weight}
use Rattle.icu_rule_meaning.proofs.weight_tree.LinkingLemmas.{last_found}
use Rattle.icu_rule_meaning.proofs.weight_tree.linked.LinkedWeights.last_or.Goals as goal

pub returns : goal.returns
returns c =
    let es = c.self.inside.links.entries in
    c.unwrap_or.ensures ∙ (ap (λ o. unwrap_or o c.args.other) (c.stop_weight.ensures ∙ ap stop_weight c.prev_in.ensures)
    ∙ (last_found es c.self.invariant c.args.other ∙ ap (last_weight c.args.other) c.self.view_is))
