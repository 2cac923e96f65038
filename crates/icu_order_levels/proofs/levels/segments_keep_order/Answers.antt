use Rattle.icu_order_levels.specs.ListOrder.{segments_order}
use Rattle.icu_order_levels.specs.Secondaries.{backward_level}
use Rattle.icu_order_levels.specs.Keys.{Determines}
use Rattle.icu_order_levels.proofs.SecondaryOrder.{backward_order}
use Rattle.icu_order_levels.proofs.KeepLemmas.{tie, tied_segments}
use Rattle.icu_order_levels.proofs.levels.segments_keep_order.Goals as goal

pub returns : goal.returns
returns g c well_formed vss wss p q l m =
    let determined : Determines (backward_level vss) (backward_level wss) (segments_order vss wss) =
    λ s t u v. backward_order g.W.LevelWeights.is_reachable well_formed vss wss s t l m p q u v in
    (determined, λ same. tied_segments vss wss (tie (backward_level vss) (backward_level wss) (segments_order vss wss) determined same))
