use Rattle.icu_order_levels.proofs.NumberStands.{number_stands}
use Rattle.icu_order_levels.proofs.DigitRuns.{run_stands}
use Rattle.icu_order_levels.proofs.ReorderedNumbers.{reachable_stands}
use Rattle.icu_order_levels.proofs.numbers.primaries_and_numbers_may_stand.Goals as goal

pub returns : goal.returns
returns g c = record {
  reachable = λ k numeric well_formed w ws p rest. reachable_stands k numeric g.W.LevelWeights.is_reachable well_formed w ws p rest;
  numbers = λ numeric n v ws l rest. number_stands numeric n g.W.LevelWeights.is_reachable ws rest v l;
  runs = λ numeric n ds ws digits rest. run_stands numeric n g.W.LevelWeights.is_reachable ws rest ds digits;
}
