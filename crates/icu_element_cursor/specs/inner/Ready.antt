-- The elements that were read and not given yet: of a character, or of a piece.
use Rattle.std.specs.Prelude.{◌≡◌, List, [], drop, take}
use Rattle.icu_table_entries.specs.Elements.{Element}
use Rattle.icu_text_decomposition.specs.declared.short_text.array_text.ArrayText.{ArrayText}
use Rattle.icu_text_decomposition.specs.short_text.ArrayTexts.{array_unread}
use Rattle.icu_element_reading.specs.declared.steady_elements.steady_elements.SteadyElements.{SteadyElements}
use Rattle.icu_element_reading.specs.steady_elements.SteadyElements.{elements_left}
use Rattle.icu_element_cursor.specs.declared.char_elements.CharElements.{CharElements}

-- the elements of a character that were not given yet
unfoldable pub elements_ready : CharElements → List Element
elements_ready l = drop l.next (take l.count l.elements)

-- neither a character nor a piece has elements left
pub record HasNoneLeft (few : CharElements) (piece : SteadyElements (ArrayText 64)) : Type 0 where
  pub of_char : elements_ready few ≡ []
  pub of_piece : elements_left array_unread piece ≡ []
