use Rattle.std.proofs.Common.{arith}
use Rattle.icu_rule_steps.proofs.symbolic_mappings.MarkRunLemmas.{weaker}
use Rattle.icu_rule_steps.proofs.symbolic_mappings.mark_runs.MarkRun.marks_ahead.Goals as goal

pub returns-then-left-self-clause-marks : goal.returns-then-left-self-clause-marks
returns-then-left-self-clause-marks c = λ text at run whole i m from before is.
    weaker c.args.self.class c.args.greatest m c.if-self-greatest.true
    (run i m (omega (arith, whole, before, from)) (omega (arith, whole, from, c.if-left-self.true)) is)
