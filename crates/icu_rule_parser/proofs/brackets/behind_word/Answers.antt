use Rattle.std.proofs.Common.{rules}
use Rattle.icu_rule_parser.proofs.BracketLemmas.{word_more}
use Rattle.icu_rule_parser.proofs.brackets.behind_word.Goals as goal

pub loop-c-preserved : goal.loop-c-preserved
loop-c-preserved c = record {
  word = λ r s. c.loop-c.invariant.word r (word_more c.in-Some.ensures (search rules) s);
  len = search rules;
}
