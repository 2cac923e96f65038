-- What was taken, and then what the cursor still gives, is all.
use Rattle.std.proofs.Common.{◌≡◌, ◌++◌, length}
use Rattle.icu_element_cursor.specs.Cursors.{cursor_gives}
use Rattle.icu_collator.specs.inner.ReadElements.{held}
use Rattle.icu_collator.proofs.room.Room.fill.Given as goal

abbrev pub invariant-elements : goal.invariant-elements
invariant-elements g l =
    held l.self ++ cursor_gives g.T.EncodedText.text l.elements ≡ cursor_gives g.T.EncodedText.text l.fn.elements

abbrev pub decreases-elements : goal.decreases-elements
decreases-elements g l = length (cursor_gives g.T.EncodedText.text l.elements)
