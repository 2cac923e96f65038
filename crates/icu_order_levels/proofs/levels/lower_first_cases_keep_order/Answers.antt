use Rattle.icu_order_levels.specs.Cases.{case_level}
use Rattle.icu_order_levels.proofs.CaseOrder.{lower_first_order}
use Rattle.icu_order_levels.proofs.KeepLemmas.{keeps}
use Rattle.icu_order_levels.proofs.levels.lower_first_cases_keep_order.Goals as goal
use Rattle.icu_order_levels.specs.declared.forms.CaseForm.TheVariants.{LowerFirst}

pub returns : goal.returns
returns c vs ws p q e =
    keeps (case_level LowerFirst vs) (case_level LowerFirst ws) vs ws (λ s t u v. lower_first_order vs ws s t p q u v e)
