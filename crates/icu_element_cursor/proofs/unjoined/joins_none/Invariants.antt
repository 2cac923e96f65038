use Rattle.icu_table_data.specs.StoredData.{found_context}
use Rattle.icu_element_cursor.specs.Cursors.{cursor_reading}
use Rattle.icu_element_cursor.specs.inner.Unjoined.{BeginsNone, IsUnjoinedBefore}
use Rattle.icu_element_cursor.proofs.unjoined.joins_none.Given as goal

-- where the rest goes on no contraction and rises from the last class, so it is with the text
abbrev pub invariant-marks : goal.invariant-marks
invariant-marks g l =
    IsUnjoinedBefore (cursor_reading l.fn.tables) (BeginsNone (found_context l.fn.context)) l.last (g.T.EncodedText.text l.rest)
    → IsUnjoinedBefore (cursor_reading l.fn.tables) (BeginsNone (found_context l.fn.context)) l.fn.least (g.T.EncodedText.text l.fn.text)
