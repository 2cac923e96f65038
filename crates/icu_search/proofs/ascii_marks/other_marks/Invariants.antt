use Rattle.icu_collator.specs.Collators.{collation_borrowed}
use Rattle.icu_search.specs.inner.AsciiMarks.{MarkOthers}
use Rattle.icu_search.proofs.ascii_marks.other_marks.Given as goal

-- what the marks say
abbrev pub invariant-loop-c : goal.invariant-loop-c
invariant-loop-c l = MarkOthers (collation_borrowed l.collator) l.primaries l.marks
