use Rattle.icu_order_levels.proofs.SameKeys.{same_keys, same_levels}
use Rattle.icu_order_levels.proofs.keys.keys_determine_levels.Goals as goal

pub returns : goal.returns
returns g c k f t u well_formed p q both =
    (same_levels k f g.W.KeyWeights.reachable t u well_formed p q both, same_keys k f g.W.KeyWeights.reachable t u well_formed p q both)
