-- What is left of elements that variable weighting handles one by one.
use Rattle.std.specs.Prelude.{ℕ, List, map}
use Rattle.icu_text_encodings.specs.declared.encoded_text.EncodedText.{Ghosts}
use Rattle.icu_element_cursor.specs.declared.first_chars.FirstChars.{FirstChars}
use Rattle.icu_element_cursor.specs.Cursors.{cursor_gives}
use Rattle.icu_order_texts.specs.weighting.Handled.{HandledElement, stayed}
use Rattle.icu_collator.specs.declared.handled.HandledElements.{HandledElements}
use Rattle.icu_collator.specs.declared.handled.HandledText.{HandledText}
use Rattle.icu_collator.specs.declared.handled.PlainText.{PlainText}
use Rattle.icu_collator.specs.declared.steady_text.SteadyText.{SteadyText}
use Rattle.icu_element_cursor.specs.SteadyCursors.{steady_gives}
use Rattle.icu_order_texts.specs.weighting.VariableWeightings.{handled_after}

-- the handled elements that are still to come
abbrev pub handled_rest : HandledElements → List HandledElement
handled_rest h = handled_after h.weighting h.rest.now

-- the handled elements that are still to come of a text, where a cursor gives its elements
abbrev pub handled_to_come : {T : Type 0} → (T → List ℕ) → HandledText T → List HandledElement
handled_to_come text h = handled_after h.weighting (cursor_gives text h.elements)

-- the handled elements that are still to come of a text, where a cursor gives its elements and none is variable
abbrev pub plain_to_come : {T : Type 0} → (T → List ℕ) → PlainText T → List HandledElement
plain_to_come text p = map stayed (cursor_gives text p.elements)

-- the handled elements that are still to come of a text, where a cursor gives its elements that never stops
abbrev pub steady_to_come : {T : Type 0} {encoded : Ghosts (FirstChars T)} → (T → List ℕ) → SteadyText T encoded → List HandledElement
steady_to_come text s = handled_after s.weighting (steady_gives text s.elements)
