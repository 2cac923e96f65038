use Rattle.icu_table_check.specs.declared.check.weights.WeightList.TheVariants.{TertiaryElements, WithSecondary}
use Rattle.icu_table_provider.specs.TableSets.{tables_in}
use Rattle.icu_table_check.specs.inner.PairViolations.{AreListed}
use Rattle.icu_table_check.proofs.check.tertiary_violations.named_pair.Given as goal

abbrev pub invariant-loop-table : goal.invariant-loop-table
invariant-loop-table l =
    AreListed TertiaryElements (tables_in l.tables).tables l.alone.items × AreListed WithSecondary (tables_in l.tables).tables l.beside.items
