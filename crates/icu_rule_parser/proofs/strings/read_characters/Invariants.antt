use Rattle.std.proofs.Common.{◌+◌, ◌≤◌, false, length, vec_len}
use Rattle.icu_rule_parser.specs.TakenText.{TakesCharacters}
use Rattle.icu_rule_parser.proofs.FaultPlaceLemmas.{OpensIn}
use Rattle.icu_rule_parser.proofs.strings.read_characters.Given as goal

-- the text goes on with the characters so far, and then with the rest
abbrev pub invariant-loop-characters : goal.invariant-loop-characters
invariant-loop-characters l = record {
  taken : TakesCharacters false l.fn.text l.characters.items l.within l.rest;
  opened : OpensIn l.fn.text l.opened;
  len : vec_len l.characters + length l.rest ≤ length l.fn.text;
}

abbrev pub decreases-loop-characters : goal.decreases-loop-characters
decreases-loop-characters l = length l.rest
