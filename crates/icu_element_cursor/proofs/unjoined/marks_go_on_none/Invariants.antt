use Rattle.icu_element_facts.specs.Followers.{HasNoBit}
use Rattle.icu_element_cursor.specs.Cursors.{cursor_reading}
use Rattle.icu_element_cursor.specs.inner.Unjoined.{IsUnjoinedBefore}
use Rattle.icu_element_cursor.proofs.unjoined.marks_go_on_none.Given as goal

-- where the rest goes on none and rises from the last class, so it is with the text
abbrev pub invariant-marks : goal.invariant-marks
invariant-marks g l =
    IsUnjoinedBefore (cursor_reading l.fn.tables) (HasNoBit l.fn.bits) l.last (g.T.EncodedText.text l.rest)
    → IsUnjoinedBefore (cursor_reading l.fn.tables) (HasNoBit l.fn.bits) l.fn.class (g.T.EncodedText.text l.fn.text)
