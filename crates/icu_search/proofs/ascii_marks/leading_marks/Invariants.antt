use Rattle.icu_collator.specs.Collators.{collation_borrowed}
use Rattle.icu_search.specs.inner.AsciiMarks.{MarkLeading}
use Rattle.icu_search.proofs.ascii_marks.leading_marks.Given as goal

-- what the marks say
abbrev pub invariant-loop-c : goal.invariant-loop-c
invariant-loop-c l = MarkLeading (collation_borrowed l.collator) l.marks
