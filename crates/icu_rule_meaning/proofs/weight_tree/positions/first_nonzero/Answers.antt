-- The first weight above 0 is the first that isn't 0.
use Rattle.std.proofs.Common.{ap, unwrap_or, ◌∙◌}
use Rattle.icu_rule_meaning.proofs.weight_tree.PositionLemmas.{first_above_zero}
use Rattle.icu_rule_meaning.proofs.weight_tree.positions.first_nonzero.Goals as goal

pub returns : goal.returns
returns g c =
    let weights = (g.R.RootWeights.root c.args.root.now).weights c.args.above.now in
    c.unwrap_or.ensures ∙ ap (λ o. unwrap_or o 0) c.greater_weight.ensures ∙ first_above_zero weights
