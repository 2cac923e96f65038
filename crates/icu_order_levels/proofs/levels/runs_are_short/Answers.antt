use Rattle.std.proofs.Common.{lit<}
use Rattle.icu_order_levels.proofs.RunLengths.{runs_short}
use Rattle.icu_order_levels.proofs.levels.runs_are_short.Goals as goal
use Rattle.icu_order_levels.specs.declared.run_bytes.TheConstants.{QUATERNARY_RUNS, SECONDARY_RUNS, TERTIARY_RUNS}

pub returns : goal.returns
returns c = record {
  secondary = runs_short SECONDARY_RUNS (lit< tt);
  tertiary = runs_short TERTIARY_RUNS (lit< tt);
  quaternary = runs_short QUATERNARY_RUNS (lit< tt);
}
