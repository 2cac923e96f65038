use Rattle.std.proofs.Common.{map}
use Rattle.icu_order_levels.specs.Primaries.{primary_level}
use Rattle.icu_order_levels.proofs.PrimaryOrder.{primary_order}
use Rattle.icu_order_levels.proofs.KeepLemmas.{keeps}
use Rattle.icu_order_levels.proofs.levels.primaries_keep_order.Goals as goal

pub returns : goal.returns
returns g c k numeric well_formed vs ws p q =
    keeps (primary_level k 0 vs) (primary_level k 0 ws) (map k.reorder vs) (map k.reorder ws)
    (λ s t u v. primary_order k numeric g.W.LevelWeights.is_reachable well_formed vs ws s t p q u v)
