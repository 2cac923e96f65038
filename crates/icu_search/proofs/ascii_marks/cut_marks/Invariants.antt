use Rattle.icu_collator.specs.Collators.{collation_borrowed}
use Rattle.icu_order_texts.specs.TextOrder.{reading_by}
use Rattle.icu_search.specs.inner.AsciiMarks.{MarkCuts}
use Rattle.icu_search.proofs.ascii_marks.cut_marks.Given as goal

-- what the marks say
abbrev pub invariant-loop-c : goal.invariant-loop-c
invariant-loop-c l = MarkCuts (reading_by (collation_borrowed l.collator)) l.marks
