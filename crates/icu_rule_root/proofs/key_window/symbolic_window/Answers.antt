-- Nothing stands below three weights.
use Rattle.std.proofs.Common.{arith}
use Rattle.icu_rule_root.proofs.WindowLemmas.{no_window}
use Rattle.icu_rule_root.proofs.key_window.symbolic_window.Goals as goal

pub returns-in_default-clause-value : goal.returns-in_default-clause-value
returns-in_default-clause-value c = no_window c.args.above.now (omega arith)
