use Rattle.icu_table_check.specs.declared.check.weights.WeightList.TheVariants.{Primaries}
use Rattle.icu_table_provider.specs.TableSets.{tables_in}
use Rattle.icu_table_weights.specs.WeightSets.{weights_of_set}
use Rattle.icu_table_check.specs.inner.PairViolations.{AreListed}
use Rattle.icu_table_check.proofs.check.implicit_overlaps.named_clash.Given as goal

abbrev pub invariant-loop-index : goal.invariant-loop-index
invariant-loop-index l = AreListed Primaries (tables_in l.tables).tables (weights_of_set l.weights)
