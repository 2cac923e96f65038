use Rattle.icu_order_levels.specs.Quaternaries.{quaternary_level}
use Rattle.icu_order_levels.proofs.QuaternaryOrder.{unshifted_order}
use Rattle.icu_order_levels.proofs.KeepLemmas.{keeps}
use Rattle.icu_order_levels.proofs.levels.unshifted_quaternaries_keep_order.Goals as goal
use Rattle.icu_order_levels.specs.declared.forms.QuaternaryForm.TheVariants.{Unshifted}

pub returns : goal.returns
returns c vs ws p q e =
    keeps (quaternary_level Unshifted vs) (quaternary_level Unshifted ws) vs ws (λ s t u v. unshifted_order vs ws s t p q u v e)
