use Rattle.std.proofs.Common.{take}
use Rattle.icu_table_provider.specs.StoredTables.{special_of}
use Rattle.icu_rule_weights.specs.PrimaryRuns.{ArePrimaryGapsOf}
use Rattle.icu_rule_weights.proofs.primary_runs.primary_gaps_of_runs.Given as goal

abbrev pub invariant-loop-run : goal.invariant-loop-run
invariant-loop-run l = ArePrimaryGapsOf (special_of l.special) l.limit (take l.run-index l.runs) l.gaps.items
