use Rattle.std.proofs.Common.{List, ◌++◌, drop}
use Rattle.icu_cldr_root.specs.RadicalLines.{WriteIdeographs}
use Rattle.icu_cldr_root.specs.inner.RadicalParts.{begun_chars}
use Rattle.icu_cldr_root.specs.declared.ideographs.CharRange.{CharRange}
use Rattle.icu_cldr_root.proofs.radical_line.ideographs_of.Given as goal

-- the characters so far write the ranges so far, and the one that is begun
abbrev pub invariant-loop-character : goal.invariant-loop-character
invariant-loop-character l = (more : List CharRange) → WriteIdeographs (begun_chars l.begun ++ drop l.character-index l.characters) more
    → WriteIdeographs l.characters (l.ranges.items ++ more)
