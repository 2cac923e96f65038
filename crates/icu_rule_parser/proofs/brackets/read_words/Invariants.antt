use Rattle.std.proofs.Common.{◌≡◌, ◌≤◌, ◌++◌, length, map, IsTrue}
use Rattle.std.specs.List.{list_all}
use Rattle.icu_rule_parser.specs.RuleCharacters.{is_word_character}
use Rattle.icu_rule_parser.specs.Tokens.{IsNoWord}
use Rattle.icu_rule_parser.specs.TakenText.{TakesWords}
use Rattle.icu_rule_parser.proofs.brackets.read_words.Given as goal

-- the text goes on with the words so far, and then with the rest, which begins with the next word
abbrev pub invariant-loop-rest : goal.invariant-loop-rest
invariant-loop-rest l = record {
  taken : TakesWords l.fn.text (map (λ word. word.now) l.words.items) l.rest;
  whole : l.rest ≡ l.word ++ l.after;
  word : IsTrue (list_all is_word_character l.word);
  ends : IsNoWord l.after;
  len : length l.rest ≤ length l.fn.text;
}

abbrev pub decreases-loop-rest : goal.decreases-loop-rest
decreases-loop-rest l = length l.rest
