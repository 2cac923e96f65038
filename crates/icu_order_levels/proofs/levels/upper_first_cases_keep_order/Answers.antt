use Rattle.icu_order_levels.specs.Cases.{case_level}
use Rattle.icu_order_levels.proofs.CaseOrder.{upper_first_order}
use Rattle.icu_order_levels.proofs.KeepLemmas.{keeps}
use Rattle.icu_order_levels.proofs.levels.upper_first_cases_keep_order.Goals as goal
use Rattle.icu_order_levels.specs.declared.forms.CaseForm.TheVariants.{UpperFirst}

pub returns : goal.returns
returns c vs ws p q = keeps (case_level UpperFirst vs) (case_level UpperFirst ws) vs ws (λ s t u v. upper_first_order vs ws s t p q u v)
