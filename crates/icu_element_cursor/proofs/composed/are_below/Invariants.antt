use Rattle.icu_table_data.specs.StoredData.{found_context}
use Rattle.icu_element_cursor.specs.Cursors.{cursor_reading}
use Rattle.icu_element_cursor.specs.inner.Composed.{AreLowerMarksBefore}
use Rattle.icu_element_cursor.proofs.composed.are_below.Given as goal

-- where the rest begins with such marks, whose classes rise from the last one, so does the text
abbrev pub invariant-marks : goal.invariant-marks
invariant-marks g l =
    AreLowerMarksBefore (cursor_reading l.fn.tables) (found_context l.fn.context) l.fn.class l.last (g.T.EncodedText.text l.rest)
    → AreLowerMarksBefore (cursor_reading l.fn.tables) (found_context l.fn.context) l.fn.class l.fn.least (g.T.EncodedText.text l.fn.text)
