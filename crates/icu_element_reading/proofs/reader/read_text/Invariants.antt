use Rattle.std.proofs.Common.{◌≡◌, ◌++◌, length}
use Rattle.icu_element_reading.specs.TextElements.{elements_of}
use Rattle.icu_element_reading.specs.inner.Positions.{unread_at, left_elements}
use Rattle.icu_element_reading.specs.Reading.{reading_of}
use Rattle.icu_element_reading.proofs.reader.read_text.Given as goal

-- what was read and what is left are all
abbrev pub invariant-steps : goal.invariant-steps
invariant-steps l =
    l.list.elements.items ++ left_elements l.reading l.at ≡ elements_of (reading_of l.reading) l.fn.text.items

abbrev pub decreases-steps : goal.decreases-steps
decreases-steps l = length (unread_at l.at)
