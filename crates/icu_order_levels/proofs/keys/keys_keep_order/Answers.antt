use Rattle.icu_order_levels.proofs.KeyOrder.{keys_order}
use Rattle.icu_order_levels.proofs.keys.keys_keep_order.Goals as goal

pub returns : goal.returns
returns g c k f t u well_formed p q both = keys_order k f g.W.KeyWeights.reachable t u well_formed p q both
