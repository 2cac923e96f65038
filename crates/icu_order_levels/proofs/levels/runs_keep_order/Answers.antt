use Rattle.icu_order_levels.proofs.LevelOrder.{level_order}
use Rattle.icu_order_levels.proofs.levels.runs_keep_order.Goals as goal

pub returns : goal.returns
returns g c r end spell row well_formed vs ws s t p q u v = level_order r row spell end g.W.LevelWeights.is_reachable well_formed vs ws s t p q u v
