use Rattle.icu_table_provider.specs.TableSets.{tables_in}
use Rattle.icu_table_check.specs.inner.Violations.{IsTrueViolation}
use Rattle.icu_table_check.proofs.ViolationPairs.{both_none, either_true}
use Rattle.icu_table_check.proofs.CheckLemmas.{leads_meet}
use Rattle.icu_table_check.proofs.check.leads_violation.Goals as goal

pub returns-clause-none : goal.returns-clause-none
returns-clause-none c = λ h.
    let last = both_none _ _ _ c.earlier-2.ensures h in
    let first = both_none _ _ _ c.earlier.ensures last.0 in
    let kept = both_none _ _ _ c.earlier-kept.ensures first.0 in
    let together = both_none _ _ _ c.earlier-together.ensures first.1 in
    let numeric = both_none _ _ _ c.earlier-numeric.ensures last.1 in
    leads_meet (tables_in c.args.tables) (c.lead_violation.ensures.none kept.0) (c.lead_violation-2.ensures.none kept.1)
    (c.lead_violation-3.ensures.none together.0) (c.lead_violation-4.ensures.none together.1) (c.lead_violation-5.ensures.none numeric.0) (c.lead_violation-6.ensures.none numeric.1)

pub returns-clause-some : goal.returns-clause-some
returns-clause-some c =
    let T = IsTrueViolation (tables_in c.args.tables) in
    either_true T _ _ _ c.earlier-2.ensures
    (either_true T _ _ _ c.earlier.ensures
    (either_true T _ _ _ c.earlier-kept.ensures c.lead_violation.ensures.some c.lead_violation-2.ensures.some)
    (either_true T _ _ _ c.earlier-together.ensures c.lead_violation-3.ensures.some c.lead_violation-4.ensures.some))
    (either_true T _ _ _ c.earlier-numeric.ensures c.lead_violation-5.ensures.some c.lead_violation-6.ensures.some)
