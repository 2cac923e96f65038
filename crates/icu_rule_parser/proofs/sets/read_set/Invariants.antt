use Rattle.std.proofs.Common.{◌≤◌, length}
use Rattle.icu_rule_parser.specs.TakenText.{TakesParts}
use Rattle.icu_rule_parser.proofs.sets.read_set.Given as goal

-- the text goes on with parts that lead to the open sets, and then with the rest
abbrev pub invariant-loop-rest : goal.invariant-loop-rest
invariant-loop-rest l = record {
  taken : TakesParts l.fn.text l.sets.items l.rest;
  len : length l.rest ≤ length l.fn.text;
}

abbrev pub decreases-loop-rest : goal.decreases-loop-rest
decreases-loop-rest l = length l.rest
