use Rattle.std.proofs.Common.{List, ◌++◌}
use Rattle.std.specs.Str.Iter.{split_whitespace_rest}
use Rattle.icu_cldr_root.specs.WrittenLines.{WriteRanges}
use Rattle.icu_cldr_root.specs.declared.ideographs.CharRange.{CharRange}
use Rattle.icu_cldr_root.proofs.ideographs.CharRange.parse_all.Given as goal

-- the words so far write the ranges so far
abbrev pub invariant-loop-word : goal.invariant-loop-word
invariant-loop-word l = (more : List CharRange) → WriteRanges (split_whitespace_rest l.word-iterator) more
    → WriteRanges l.text (l.ranges.items ++ more)
