use Rattle.icu_table_provider.specs.TableSets.{tables_in}
use Rattle.icu_table_check.specs.inner.Violations.{IsTrueViolation}
use Rattle.icu_table_check.proofs.ViolationPairs.{both_none, either_true}
use Rattle.icu_table_check.proofs.CheckLemmas.{well_formed_tables}
use Rattle.icu_table_check.proofs.check.first_violation.Goals as goal

pub returns : goal.returns
returns c =
    let T = IsTrueViolation (tables_in c.args.tables) in
    record {
      none = λ h.
          let both = both_none _ _ _ c.earlier-2.ensures h in
          let first = both_none _ _ _ c.earlier.ensures both.0 in
          well_formed_tables (tables_in c.args.tables) c.show_tables.ensures (c.count_violation.ensures.none c.in_default.is)
          (c.in_ok-reachable.ensures.outcome.none first.0) (c.leads_violation.ensures.none first.1) (c.in_ok-pairs.ensures.none both.1);
      some = either_true T _ _ _ c.earlier-2.ensures (either_true T _ _ _ c.earlier.ensures c.in_ok-reachable.ensures.outcome.some c.leads_violation.ensures.some) c.in_ok-pairs.ensures.some;
    }
