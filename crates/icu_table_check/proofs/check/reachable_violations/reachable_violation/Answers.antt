use Rattle.icu_table_provider.specs.TableSets.{tables_in}
use Rattle.icu_table_check.specs.inner.Violations.{IsTrueViolation}
use Rattle.icu_table_check.proofs.ListedLemmas.{holds_each}
use Rattle.icu_table_check.proofs.ViolationPairs.{both_none, either_true}
use Rattle.icu_table_check.proofs.check.reachable_violations.reachable_violation.Goals as goal

pub returns-clause-outcome : goal.returns-clause-outcome
returns-clause-outcome c =
    let T = IsTrueViolation (tables_in c.args.tables) in
    record {
      none = λ h.
          let both = both_none _ _ _ c.earlier.ensures h in
          let first = both_none _ _ _ c.earlier-of_root.ensures both.0 in
          let second = both_none _ _ _ c.earlier-of_others.ensures both.1 in
          record {
            root = c.in_ok-root.ensures.outcome.none first.0;
            jamo = c.jamo_violation.ensures.none first.1;
            tailoring = c.in_ok-tailoring.ensures.outcome.none second.0;
            diacritics = c.diacritics_violation.ensures.none second.1;
          };
      some = either_true T _ _ _ c.earlier.ensures
          (either_true T _ _ _ c.earlier-of_root.ensures c.in_ok-root.ensures.outcome.some c.jamo_violation.ensures.some)
          (either_true T _ _ _ c.earlier-of_others.ensures c.in_ok-tailoring.ensures.outcome.some c.diacritics_violation.ensures.some);
    }

pub returns-clause-lists : goal.returns-clause-lists
returns-clause-lists c =
    holds_each (tables_in c.args.tables) _ _ _ _ _ c.requires c.in_ok-root.ensures.adds c.in_ok-collect_each.ensures
    c.in_ok-tailoring.ensures.adds c.in_ok-collect_each-2.ensures
