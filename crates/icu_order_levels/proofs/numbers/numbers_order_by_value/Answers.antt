use Rattle.icu_order_levels.proofs.NumberWeightOrder.{numbers_by_value}
use Rattle.icu_order_levels.proofs.ReorderedNumbers.{moved_by_value}
use Rattle.icu_order_levels.proofs.numbers.numbers_order_by_value.Goals as goal

pub returns : goal.returns
returns g c = record {
  before = λ numeric v w f h. numbers_by_value numeric v w f h;
  reordered = λ k numeric well_formed n v w f h. moved_by_value k numeric g.W.LevelWeights.is_reachable well_formed n v w f h;
}
