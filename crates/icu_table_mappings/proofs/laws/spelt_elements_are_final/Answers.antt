use Rattle.icu_table_mappings.proofs.SpeltElementLemmas.{spelt_final}
use Rattle.icu_table_mappings.proofs.laws.spelt_elements_are_final.Goals as goal

pub returns : goal.returns
returns c = spelt_final
