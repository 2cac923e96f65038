use Rattle.std.proofs.Common.{◌++◌, List, String, map, drop}
use Rattle.std.specs.declared.alloc.Global.{Global}
use Rattle.icu_rule_parser.specs.Statements.{WriteWords}
use Rattle.icu_rule_parser.proofs.bracketed.texts_of.Given as goal

-- the texts so far, and those of the words that are left, are those of all words
abbrev pub invariant-loop-word : goal.invariant-loop-word
invariant-loop-word l = (more : List (String Global))
    → WriteWords more (map (λ word. word.now) (drop l.word-index l.words))
    → WriteWords (l.texts.items ++ more) (map (λ word. word.now) l.words)
