use Rattle.icu_order_levels.proofs.KeyOrder.{levels_determine}
use Rattle.icu_order_levels.proofs.keys.levels_determine_in_turn.Goals as goal

pub returns : goal.returns
returns c ps qs o parts first later = levels_determine ps qs o parts first later
