-- What a reader of places has passed, and what it has left.
use Rattle.std.specs.Prelude.{◌≡◌, ℕ, ◌+◌, Bool, true, ◌&&◌, ◌==◌, List, [], ◌∷◌, ◌++◌, Option, length, flat_map}
use Rattle.std.specs.Iterator.{Count}
use Rattle.ucd_normal.specs.declared.forms.Form.TheVariants.{Nfd}
use Rattle.unicode_normalization.specs.Decompose.{decompose}
use Rattle.unicode_normalization.specs.Forms.{nfd}
use Rattle.icu_table_entries.specs.Elements.{Element}
use Rattle.icu_element_reading.specs.TextElements.{Reading, elements_of}
use Rattle.icu_element_reading.specs.StepReaders.{CanStep, reading_in}
use Rattle.icu_search_places.specs.SearchPlaces.{first_leads, is_place}
use Rattle.icu_search_places.specs.declared.place_reader.place_reader.PlaceReader.{PlaceReader}
use Rattle.icu_search_places.specs.place_reader.inner.StepsGathered.{HasReadTo}

-- how it reads
abbrev pub places_reading : {I : Type 0} → PlaceReader I → Reading
places_reading r = reading_in r.gathered.steps

-- the characters that it hasn't passed
abbrev pub chars_left : {I : Type 0} → PlaceReader I → List ℕ
chars_left r = r.left.now

-- the elements that it has read
abbrev pub elements_read : {I : Type 0} → PlaceReader I → List Element
elements_read r = r.gathered.elements.items

-- it may be called
abbrev pub CanPass : {I : Type 0} → (I → Type 0) → (I → Count) → PlaceReader I → Type 0
CanPass can left r = CanStep can left r.gathered.steps

-- how many characters a text decomposes to
abbrev pub decomposed_length : List ℕ → ℕ
decomposed_length text = length (flat_map (decompose Nfd) text)

-- it has passed these characters of a text, and has read as far, or further
pub record HasPassed {I : Type 0} (steps : I → Option ℕ → I → Type 0) (r : PlaceReader I) (front : List ℕ) : Type 0 where
  pub read : HasReadTo steps r.gathered (nfd (front ++ chars_left r)) (decomposed_length (chars_left r))

-- It has passed one more character, and tells whether a place of the text is there. At a place it has read the elements
-- of what it has passed.
pub record PassesChar {I : Type 0} (steps : I → Option ℕ → I → Type 0) (old : PlaceReader I) (front : List ℕ) (here : Bool) (new : PlaceReader I) : Type 0 where
  pub char : ℕ
  pub left_is : chars_left old ≡ char ∷ chars_left new
  pub passed : HasPassed steps new (front ++ char ∷ [])
  pub here_is : here ≡ is_place (places_reading old) (front ++ chars_left old) (length front + 1)
  pub elements : here ≡ true → elements_read new ≡ elements_of (places_reading old) (nfd (front ++ char ∷ []))

-- nothing is left, or so many characters were read ahead and what is left begins a letter
abbrev pub stands_at_place : List ℕ → ℕ → Bool
stands_at_place [] ahead = true
stands_at_place (c ∷ cs) ahead = ahead == 0 && first_leads (decompose Nfd c)
