use Rattle.icu_order_levels.specs.Quaternaries.{quaternary_level}
use Rattle.icu_order_levels.proofs.QuaternaryOrder.{quaternary_order}
use Rattle.icu_order_levels.proofs.KeepLemmas.{keeps}
use Rattle.icu_order_levels.proofs.levels.quaternaries_keep_order.Goals as goal
use Rattle.icu_order_levels.specs.declared.forms.QuaternaryForm.TheVariants.{MayShift}

pub returns : goal.returns
returns g c well_formed vs ws p q =
    keeps (quaternary_level MayShift vs) (quaternary_level MayShift ws) vs ws (λ s t u v. quaternary_order g.W.LevelWeights.is_reachable well_formed vs ws s t p q u v)
