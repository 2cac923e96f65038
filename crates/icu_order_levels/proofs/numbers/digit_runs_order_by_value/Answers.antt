use Rattle.icu_order_levels.proofs.DigitRuns.{runs_by_value}
use Rattle.icu_order_levels.proofs.ReorderedNumbers.{moved_runs_by_value}
use Rattle.icu_order_levels.proofs.numbers.digit_runs_order_by_value.Goals as goal

pub returns : goal.returns
returns g c = record {
  before = λ numeric ds es p q. runs_by_value numeric ds es p.digits q.digits p.some q.some p.short q.short;
  reordered = λ k numeric well_formed n ds es p q. moved_runs_by_value k numeric g.W.LevelWeights.is_reachable well_formed n ds es p q;
}
