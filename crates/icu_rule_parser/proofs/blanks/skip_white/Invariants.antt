use Rattle.std.proofs.Common.{ℕ, List, ◌≤◌, length}
use Rattle.icu_rule_parser.specs.TakenText.{SkipsWhite}
use Rattle.icu_rule_parser.proofs.blanks.skip_white.Given as goal

-- what the rest goes on with is what the text goes on with
abbrev pub invariant-loop-c : goal.invariant-loop-c
invariant-loop-c l = record {
  skips : (r : List ℕ) → SkipsWhite l.rest r → SkipsWhite l.fn.text r;
  len : length l.rest ≤ length l.fn.text;
}

abbrev pub decreases-loop-c : goal.decreases-loop-c
decreases-loop-c l = length l.rest
