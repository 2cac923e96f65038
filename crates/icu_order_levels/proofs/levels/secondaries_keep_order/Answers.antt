use Rattle.icu_order_levels.specs.Secondaries.{secondary_level}
use Rattle.icu_order_levels.proofs.SecondaryOrder.{secondary_order}
use Rattle.icu_order_levels.proofs.KeepLemmas.{keeps}
use Rattle.icu_order_levels.proofs.levels.secondaries_keep_order.Goals as goal

pub returns : goal.returns
returns g c well_formed vs ws p q =
    keeps (secondary_level vs) (secondary_level ws) vs ws (λ s t u v. secondary_order g.W.LevelWeights.is_reachable well_formed vs ws s t p q u v)
