-- What a cursor that never stops still gives.
use Rattle.std.specs.Prelude.{ℕ, List, [], ◌++◌}
use Rattle.icu_table_entries.specs.Elements.{Element}
use Rattle.icu_text_encodings.specs.declared.encoded_text.EncodedText.{Ghosts}
use Rattle.icu_text_decomposition.specs.short_text.ArrayTexts.{array_unread}
use Rattle.icu_text_decomposition.specs.MatchableTexts.{unread_text}
use Rattle.icu_element_reading.specs.steady_elements.SteadyElements.{elements_left}
use Rattle.icu_element_cursor.specs.declared.first_chars.FirstChars.{FirstChars}
use Rattle.icu_element_cursor.specs.declared.long_piece.BegunPiece.{BegunPiece}
use Rattle.icu_element_cursor.specs.declared.long_piece.BegunPiece.TheVariants.{Ended, Long, Steady}
use Rattle.icu_element_cursor.specs.declared.steady_cursor.SteadyCursor.{SteadyCursor}
use Rattle.icu_element_cursor.specs.Cursors.{cursor_gives}
use Rattle.icu_element_cursor.specs.inner.FirstChars.{first_chars}

-- the elements that a piece still gives, where one was begun
abbrev pub piece_gives : {T : Type 0} {encoded : Ghosts (FirstChars T)} → (T → List ℕ) → BegunPiece T encoded → List Element
piece_gives text Ended = []
piece_gives text (Long s) = elements_left array_unread s
piece_gives text (Steady s) = elements_left (unread_text (first_chars text)) s

-- the elements that a steady cursor still gives: those of the piece that was begun, and those that come after it
abbrev pub steady_gives : {T : Type 0} {encoded : Ghosts (FirstChars T)} → (T → List ℕ) → SteadyCursor T encoded → List Element
steady_gives text c = piece_gives text c.piece ++ cursor_gives text c.plain
