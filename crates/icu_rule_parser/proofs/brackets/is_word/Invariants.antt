use Rattle.std.proofs.Common.{◌≡◌, drop}
use Rattle.icu_rule_parser.proofs.brackets.is_word.Given as goal

-- if what is left of the word is what is left of the name, they are the same
abbrev pub invariant-loop-byte : goal.invariant-loop-byte
invariant-loop-byte l = l.rest ≡ drop l.byte-index l.name → l.fn.word ≡ l.fn.name
