use Rattle.icu_order_levels.proofs.PrimaryOrder.{primaries_kept}
use Rattle.icu_order_levels.proofs.beginnings.laws.bytes_begin_as_primaries.Goals as goal

pub returns : goal.returns
returns g c = λ compression numeric well_formed ps ws more p q u.
    primaries_kept compression numeric g.W.LevelWeights.is_reachable well_formed ps ws more p q u
