use Rattle.std.proofs.Common.{ℕ, List, ◌≤◌, length}
use Rattle.icu_rule_parser.specs.TakenText.{SkipsWord}
use Rattle.icu_rule_parser.proofs.brackets.behind_word.Given as goal

-- what the rest goes on with is what the text goes on with
abbrev pub invariant-loop-c : goal.invariant-loop-c
invariant-loop-c l = record {
  word : (r : List ℕ) → SkipsWord l.rest r → SkipsWord l.fn.text r;
  len : length l.rest ≤ length l.fn.text;
}

abbrev pub decreases-loop-c : goal.decreases-loop-c
decreases-loop-c l = length l.rest
