-- An error is handed on.
use Rattle.icu_rule_tables.specs.RuleErrors.{IsErrorOfRules}
use Rattle.icu_rule_tables.proofs.TailoringLemmas.{handed_on}
use Rattle.icu_rule_tables.proofs.own_jamo.checked_vectors.Goals as goal

pub returns-in_err-root-clause-err : goal.returns-in_err-root-clause-err
returns-in_err-root-clause-err c root statements =
    handed_on c.from_residual.result c.in_err-root.field-0.0 (IsErrorOfRules root statements)
    c.from_residual.ensures.1 (c.in_err-root.ensures.err root statements)

pub returns-in_err-jamo-clause-err : goal.returns-in_err-jamo-clause-err
returns-in_err-jamo-clause-err c root statements =
    handed_on c.from_residual-in_err-jamo.result c.in_err-jamo.field-0.0 (IsErrorOfRules root statements)
    c.from_residual-in_err-jamo.ensures.1 (c.in_err-jamo.ensures.err root statements)
