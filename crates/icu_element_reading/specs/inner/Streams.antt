-- A text that comes from a source while it is read.
use Rattle.std.specs.Prelude.{◌≡◌, ℕ, ◌+◌, List, ◌++◌, Option, length}
use Rattle.std.specs.Iterator.{Count}
use Rattle.icu_element_reading.specs.inner.Iterating.{chars_in_source, StillReads}
use Rattle.icu_element_reading.specs.declared.decomposed_source.DecomposedSource.{DecomposedSource}
use Rattle.icu_table_entries.specs.Elements.{Element}
use Rattle.icu_element_reading.specs.declared.text_reading.TextReading.{TextReading}
use Rattle.icu_element_reading.specs.declared.reader.position.Position.{Position}
use Rattle.icu_element_reading.specs.TextElements.{elements_after}
use Rattle.icu_element_reading.specs.inner.Positions.{consumed_last, unread_at}
use Rattle.icu_element_reading.specs.Reading.{reading_of}

-- the elements of the text that is left, and of what comes after it
abbrev pub elements_before : TextReading → Position → List ℕ → List Element
elements_before reading p left = elements_after (reading_of reading) (consumed_last p) (unread_at p ++ left)

-- these elements come, and then those of the text that is left and of what its source has
pub record HasElements {I : Type 0} (steps : I → Option ℕ → I → Type 0) (reading : TextReading) (from : DecomposedSource I) (p : Position) (ready all : List Element) : Type 0 where
  pub left : List ℕ
  pub source : StillReads steps from left
  pub elements : all ≡ ready ++ elements_before reading p left

-- how many characters may still come
abbrev pub chars_ahead : {I : Type 0} → (I → Count) → DecomposedSource I → Position → ℕ
chars_ahead left source p = chars_in_source left source + length (unread_at p)
