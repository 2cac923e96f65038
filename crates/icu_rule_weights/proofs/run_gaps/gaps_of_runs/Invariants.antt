use Rattle.std.proofs.Common.{take}
use Rattle.icu_rule_weights.specs.inner.RunGaps.{AreGapsOfRuns}
use Rattle.icu_rule_weights.proofs.run_gaps.gaps_of_runs.Given as goal

abbrev pub invariant-loop-run : goal.invariant-loop-run
invariant-loop-run l = AreGapsOfRuns l.level (take l.run-index l.runs) l.gaps.items
