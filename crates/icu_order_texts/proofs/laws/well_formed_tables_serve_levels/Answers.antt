use Rattle.icu_order_texts.proofs.FormWeights.{weights_reachable}
use Rattle.icu_order_texts.proofs.laws.well_formed_tables_serve_levels.Goals as goal

pub returns : goal.returns
returns g = λ all well_formed f fits. weights_reachable all well_formed f fits
