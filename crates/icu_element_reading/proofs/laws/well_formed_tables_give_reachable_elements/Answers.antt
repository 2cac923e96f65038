use Rattle.icu_element_reading.proofs.ReachableTextLemmas.{well_formed_tables_reachable}
use Rattle.icu_element_reading.proofs.laws.well_formed_tables_give_reachable_elements.Goals as goal

pub returns : goal.returns
returns g = λ all numeric lithuanian well_formed cs scalars. well_formed_tables_reachable all numeric lithuanian well_formed cs scalars
