use Rattle.icu_element_cursor.specs.inner.MarkRuns.{Rises}
use Rattle.icu_element_cursor.proofs.stands.more_marks_rise.Given as goal

-- where the rest rises from the last class, so does the text from the first
abbrev pub invariant-marks : goal.invariant-marks
invariant-marks g l = Rises l.last (g.T.EncodedText.text l.rest) → Rises l.fn.class (g.T.EncodedText.text l.fn.text)
