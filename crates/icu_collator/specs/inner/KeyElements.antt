-- The elements of a text that are still to come for its key.
use Rattle.std.specs.Prelude.{ℕ, List, [], Option, Box, Some, None, map}
use Rattle.icu_text_encodings.specs.declared.encoded_text.EncodedText.{Ghosts}
use Rattle.icu_table_entries.specs.Elements.{Element}
use Rattle.icu_element_cursor.specs.declared.first_chars.FirstChars.{FirstChars}
use Rattle.icu_element_cursor.specs.declared.steady_cursor.SteadyCursor.{SteadyCursor}
use Rattle.icu_element_cursor.specs.Cursors.{cursor_gives, lone_gives}
use Rattle.icu_element_cursor.specs.SteadyCursors.{steady_gives}
use Rattle.icu_order_texts.specs.weighting.Handled.{HandledElement, stayed}
use Rattle.icu_order_texts.specs.weighting.VariableWeightings.{handled_after}
use Rattle.icu_collator.specs.declared.key_text.KeyElements.{KeyElements}
use Rattle.icu_collator.specs.declared.key_text.PieceElements.{PieceElements}
use Rattle.icu_collator.specs.declared.key_text.HandledKeyText.{HandledKeyText}
use Rattle.icu_collator.specs.declared.key_text.PlainKeyText.{PlainKeyText}

-- the elements of the cursor that never stops, where there is one
abbrev pub steady_elements_left : {T Z : Type 0} {encoded : Ghosts (FirstChars T)} → (T → List ℕ) → Option (Box (SteadyCursor T encoded) Z) → List Element
steady_elements_left text None = []
steady_elements_left text (Some s) = steady_gives text s.value

-- the elements that a reader of pieces still gives: those of the cursor that stops, or of the one that never does
abbrev pub piece_elements_left : {T : Type 0} {encoded : Ghosts (FirstChars T)} → (T → List ℕ) → PieceElements T encoded → List Element
piece_elements_left text k = elim k.cursor [ None ↦ steady_elements_left text k.steady | Some c ↦ cursor_gives text c ]

-- the elements that are still to come: those of the lone cursor, or of the reader of pieces
abbrev pub key_elements_left : {T : Type 0} {encoded : Ghosts (FirstChars T)} → (T → List ℕ) → KeyElements T encoded → List Element
key_elements_left text k = elim k.pieces [ None ↦ lone_gives text k.lone | Some p ↦ piece_elements_left text p.value ]

-- as variable weighting leaves them
abbrev pub handled_for_key : {T : Type 0} {encoded : Ghosts (FirstChars T)} → (T → List ℕ) → HandledKeyText T encoded → List HandledElement
handled_for_key text k = handled_after k.weighting (key_elements_left text k.elements)

-- where none is variable
abbrev pub plain_for_key : {T : Type 0} {encoded : Ghosts (FirstChars T)} → (T → List ℕ) → PlainKeyText T encoded → List HandledElement
plain_for_key text k = map stayed (key_elements_left text k.elements)
