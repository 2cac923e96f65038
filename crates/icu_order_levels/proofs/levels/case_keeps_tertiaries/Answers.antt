use Rattle.icu_order_levels.proofs.CasedTertiaries.{cased_tertiaries}
use Rattle.icu_order_levels.proofs.levels.case_keeps_tertiaries.Goals as goal

pub returns : goal.returns
returns g c form well_formed = cased_tertiaries form g.W.LevelWeights.is_reachable well_formed
