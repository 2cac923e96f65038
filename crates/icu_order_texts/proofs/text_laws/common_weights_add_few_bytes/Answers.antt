use Rattle.std.proofs.Common.{lit<}
use Rattle.icu_order_levels.specs.WeightBytes.{weight_bytes}
use Rattle.icu_order_levels.specs.Tertiaries.{tertiary_bytes}
use Rattle.icu_order_levels.specs.declared.forms.TertiaryForm.TheVariants.{WithoutCase}
use Rattle.icu_order_levels.specs.declared.run_bytes.TheConstants.{SECONDARY_RUNS, TERTIARY_RUNS}
use Rattle.icu_order_texts.proofs.text_laws.RunLengthLemmas.{commons_add, quaternaries_add, add_thirties, add_nineties}
use Rattle.icu_order_texts.proofs.text_laws.common_weights_add_few_bytes.Goals as goal

pub returns-clause-secondary : goal.returns-clause-secondary
returns-clause-secondary c = commons_add SECONDARY_RUNS (lit< tt) add_thirties (weight_bytes 2)

pub returns-clause-tertiary : goal.returns-clause-tertiary
returns-clause-tertiary c = commons_add TERTIARY_RUNS (lit< tt) add_nineties (tertiary_bytes WithoutCase)

pub returns-clause-quaternary : goal.returns-clause-quaternary
returns-clause-quaternary c = λ form. quaternaries_add form
