use Rattle.std.proofs.Common.{length}
use Rattle.icu_rule_weights.specs.SiblingRuns.{IsRootedFirst}
use Rattle.icu_rule_weights.proofs.SiblingRunLemmas.{IsSplit}
use Rattle.icu_rule_weights.proofs.sibling_run.sibling_runs.Given as goal

abbrev pub invariant-splitting : goal.invariant-splitting
invariant-splitting l = IsRootedFirst l.fn.siblings → IsSplit l.alone l.fn.siblings l.runs.items l.rest

abbrev pub decreases-splitting : goal.decreases-splitting
decreases-splitting l = length l.rest
