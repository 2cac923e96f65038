use Rattle.std.proofs.Common.{ℕ, List, ◌++◌}
use Rattle.std.specs.Str.Iter.{split_whitespace_rest}
use Rattle.icu_cldr_root.specs.Words.{WriteCharacters}
use Rattle.icu_cldr_root.proofs.mapping.characters.Given as goal

-- the words so far write the characters so far
abbrev pub invariant-loop-word : goal.invariant-loop-word
invariant-loop-word l = (more : List ℕ) → WriteCharacters (split_whitespace_rest l.word-iterator) more
    → WriteCharacters (split_whitespace_rest l.words) (l.characters.items ++ more)
