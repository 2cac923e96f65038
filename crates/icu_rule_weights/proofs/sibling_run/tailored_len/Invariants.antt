use Rattle.std.proofs.Common.{take}
use Rattle.icu_rule_weights.specs.SiblingRuns.{AreTailored}
use Rattle.icu_rule_weights.proofs.sibling_run.tailored_len.Given as goal

abbrev pub invariant-loop-i : goal.invariant-loop-i
invariant-loop-i l = AreTailored (take l.i l.siblings)
