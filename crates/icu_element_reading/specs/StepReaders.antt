-- What a reader of steps has given, and what it has left.
use Rattle.std.specs.Prelude.{◌≡◌, ℕ, ◌+◌, List, ◌∷◌, ◌++◌, Option, length}
use Rattle.std.specs.Iterator.{Count}
use Rattle.icu_element_reading.specs.inner.Iterating.{CanRead, StillReads}
use Rattle.icu_table_entries.specs.Elements.{Element}
use Rattle.icu_element_reading.specs.declared.step_reader.StepReader.{StepReader}
use Rattle.icu_element_reading.specs.TextElements.{Reading, step, consumed, last_two}
use Rattle.icu_element_reading.specs.Reading.{reading_of}
use Rattle.icu_element_reading.specs.inner.Positions.{consumed_last, unread_at}
use Rattle.icu_element_reading.specs.inner.Streams.{chars_ahead}

-- how it reads
abbrev pub reading_in : {I : Type 0} → StepReader I → Reading
reading_in r = reading_of r.reading

-- the elements of its last step
abbrev pub elements_given : {I : Type 0} → StepReader I → List Element
elements_given r = r.list.elements.items

-- this decomposed text is left of it, after these characters, the nearest first
pub record HasLeft {I : Type 0} (steps : I → Option ℕ → I → Type 0) (r : StepReader I) (before text : List ℕ) : Type 0 where
  pub more : List ℕ
  pub source : StillReads steps r.source more
  pub before_is : consumed_last r.position ≡ before
  pub text_is : text ≡ unread_at r.position ++ more

-- A step was taken at the first character that was left: it has given the step's elements, and what the step leaves is
-- left. So many characters were consumed after the first.
pub record TakesStep {I : Type 0} (steps : I → Option ℕ → I → Type 0) (old : StepReader I) (before text : List ℕ) (count : ℕ) (new : StepReader I) : Type 0 where
  pub char : ℕ
  pub later : List ℕ
  pub text_is : text ≡ char ∷ later
  pub elements : elements_given new ≡ (step (reading_in old) before char later).elements
  pub left : HasLeft steps new (last_two before (consumed char (step (reading_in old) before char later))) (step (reading_in old) before char later).rest
  pub count_is : count + length (step (reading_in old) before char later).rest ≡ length later

-- it may be called
abbrev pub CanStep : {I : Type 0} → (I → Type 0) → (I → Count) → StepReader I → Type 0
CanStep can left r = CanRead can left r.source

-- a bound on the characters that may still come
abbrev pub steps_ahead : {I : Type 0} → (I → Count) → StepReader I → ℕ
steps_ahead left r = chars_ahead left r.source r.position
