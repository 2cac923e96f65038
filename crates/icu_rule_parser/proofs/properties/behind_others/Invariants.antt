use Rattle.std.proofs.Common.{List, ℕ, ◌≤◌, length}
use Rattle.icu_rule_parser.specs.TakenText.{SkipsOthers}
use Rattle.icu_rule_parser.proofs.properties.behind_others.Given as goal

-- what the rest goes on with is what the text goes on with
abbrev pub invariant-loop-c : goal.invariant-loop-c
invariant-loop-c l = record {
  others : (r : List ℕ) → SkipsOthers l.fn.sign l.rest r → SkipsOthers l.fn.sign l.fn.text r;
  len : length l.rest ≤ length l.fn.text;
}

abbrev pub decreases-loop-c : goal.decreases-loop-c
decreases-loop-c l = length l.rest
