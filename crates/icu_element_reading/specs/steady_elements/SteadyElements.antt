-- What a reader of elements still gives.
use Rattle.std.specs.Prelude.{ℕ, List}
use Rattle.icu_table_entries.specs.Elements.{Element}
use Rattle.icu_element_reading.specs.LastChars.{recent_chars}
use Rattle.icu_element_reading.specs.Reading.{reading_of}
use Rattle.icu_element_reading.specs.declared.steady_elements.steady_elements.SteadyElements.{SteadyElements}
use Rattle.icu_element_reading.specs.steady_elements.inner.StepElements.{elements_to_give}

-- the decomposed text that is left
abbrev pub text_left : {X : Type 0} → (X → List ℕ) → SteadyElements X → List ℕ
text_left unread s = unread s.place.text

-- the elements that it still gives: those of the step in hand, and those of the text that is left
unfoldable pub elements_left : {X : Type 0} → (X → List ℕ) → SteadyElements X → List Element
elements_left unread s = elements_to_give (reading_of s.reading) s.given (recent_chars s.place.recent) (text_left unread s)
