use Rattle.std.proofs.Common.{[], ◌≤◌, length}
use Rattle.icu_rule_parser.specs.TakenText.{Takes}
use Rattle.icu_rule_parser.proofs.blanks.skip_blanks.Given as goal

-- what the rest goes on with is what the text goes on with
abbrev pub invariant-loop-c : goal.invariant-loop-c
invariant-loop-c l = record {
  takes : Takes l.fn.text [] l.rest;
  len : length l.rest ≤ length l.fn.text;
}

abbrev pub decreases-loop-c : goal.decreases-loop-c
decreases-loop-c l = length l.rest
