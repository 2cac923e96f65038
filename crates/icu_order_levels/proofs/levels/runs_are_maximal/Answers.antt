use Rattle.icu_order_levels.proofs.MaximalRuns.{maximal_run, last_run}
use Rattle.icu_order_levels.proofs.levels.runs_are_maximal.Goals as goal

pub returns : goal.returns
returns c r spell n w ws e = (maximal_run r spell n w ws e, last_run r spell n)
