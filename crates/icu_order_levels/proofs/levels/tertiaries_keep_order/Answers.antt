use Rattle.icu_order_levels.specs.Tertiaries.{tertiary_level}
use Rattle.icu_order_levels.proofs.TertiaryOrder.{tertiary_order}
use Rattle.icu_order_levels.proofs.KeepLemmas.{keeps}
use Rattle.icu_order_levels.proofs.levels.tertiaries_keep_order.Goals as goal

pub returns : goal.returns
returns g c form well_formed vs ws p q =
    keeps (tertiary_level form vs) (tertiary_level form ws) vs ws
    (λ s t u v. tertiary_order g.W.LevelWeights.is_reachable form well_formed vs ws s t p q u v)
