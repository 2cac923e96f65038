use Rattle.icu_table_provider.specs.TableSets.{tables_in}
use Rattle.icu_table_check.specs.inner.Violations.{IsTrueViolation}
use Rattle.icu_table_weights.specs.WeightSets.{weights_of_set}
use Rattle.icu_table_check.proofs.ViolationPairs.{both_none, either_true}
use Rattle.icu_table_check.proofs.check.primary_violations.primary_violation.Goals as goal

pub returns : goal.returns
returns c =
    let all = tables_in c.args.tables in
    let T = IsTrueViolation all in
    record {
      none = λ h.
          let last = both_none _ _ _ c.earlier-2.ensures h in
          let first = both_none _ _ _ c.earlier.ensures last.0 in
          record {
            weights = weights_of_set c.args.weights.now;
            all_held = c.requires.all;
            free = c.in_ok-overlap.ensures.none first.0;
            alike = c.in_ok-unlike.ensures.none last.1;
          };
      some = either_true T _ _ _ c.earlier-2.ensures (either_true T _ _ _ c.earlier.ensures c.in_ok-overlap.ensures.some c.in_ok-implicit.ensures) c.in_ok-unlike.ensures.some;
    }
