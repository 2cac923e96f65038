use Rattle.icu_table_provider.specs.TableSets.{tables_in}
use Rattle.icu_table_check.specs.inner.ComparedLevels.{list_of}
use Rattle.icu_table_weights.specs.WeightSets.{weights_of_set}
use Rattle.icu_table_check.specs.inner.PairViolations.{AreListed}
use Rattle.icu_table_check.proofs.check.overlap_violations.named_overlap.Given as goal

abbrev pub invariant-loop-table : goal.invariant-loop-table
invariant-loop-table l = AreListed (list_of l.level) (tables_in l.tables).tables (weights_of_set l.weights)
