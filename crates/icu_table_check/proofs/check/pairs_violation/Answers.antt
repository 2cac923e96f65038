use Rattle.icu_table_provider.specs.TableSets.{tables_in}
use Rattle.icu_table_check.specs.inner.Violations.{IsTrueViolation}
use Rattle.icu_table_check.proofs.ViolationPairs.{both_none, either_true}
use Rattle.icu_table_check.proofs.check.pairs_violation.Goals as goal

pub returns : goal.returns
returns c =
    let T = IsTrueViolation (tables_in c.args.tables) in
    record {
      none = λ h.
          let both = both_none _ _ _ c.earlier-3.ensures h in
          let first = both_none _ _ _ c.earlier.ensures both.0 in
          let second = both_none _ _ _ c.earlier-2.ensures both.1 in
          record {
            tertiary_elements = c.in_ok-tertiary_element.ensures.none first.0;
            secondaries = c.in_ok-secondary.ensures.none first.1;
            tertiaries = c.in_ok-tertiary.ensures.none second.0;
            primaries = c.in_ok-primary.ensures.none second.1;
          };
      some = either_true T _ _ _ c.earlier-3.ensures
          (either_true T _ _ _ c.earlier.ensures c.in_ok-tertiary_element.ensures.some c.in_ok-secondary.ensures.some)
          (either_true T _ _ _ c.earlier-2.ensures c.in_ok-tertiary.ensures.some c.in_ok-primary.ensures.some);
    }
