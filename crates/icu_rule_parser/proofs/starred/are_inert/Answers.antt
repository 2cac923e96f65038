use Rattle.std.proofs.Common.{arith}
use Rattle.icu_rule_parser.proofs.starred.are_inert.Goals as goal

pub returns : goal.returns
returns c = λ _ k low high s. c.loop-code.invariant k low (omega arith) s
