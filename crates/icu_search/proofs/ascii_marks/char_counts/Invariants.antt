use Rattle.icu_collator.specs.Collators.{collation_borrowed}
use Rattle.icu_search.specs.inner.AsciiMarks.{CountChars}
use Rattle.icu_search.proofs.ascii_marks.char_counts.Given as goal

-- what the counts say
abbrev pub invariant-loop-c : goal.invariant-loop-c
invariant-loop-c l = CountChars (collation_borrowed l.collator) l.counts
