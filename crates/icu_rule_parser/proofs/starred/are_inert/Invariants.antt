use Rattle.std.proofs.Common.{ℕ, ◌≤◌, ◌<◌}
use Rattle.std.specs.Char.{IsScalar}
use Rattle.icu_rule_parser.specs.Statements.{IsInert}
use Rattle.icu_rule_parser.proofs.starred.are_inert.Given as goal

-- the characters so far are inert
abbrev pub invariant-loop-code : goal.invariant-loop-code
invariant-loop-code l = (k : ℕ) → l.fn.first ≤ k → k < l.code → IsScalar k → IsInert k
