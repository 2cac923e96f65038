-- What an iterator of elements still gives, and that it may be called.
use Rattle.std.specs.Prelude.{◌≡◌, ℕ, List, [], ◌∷◌, Option, ⊤}
use Rattle.std.specs.Iterator.{Count}
use Rattle.icu_element_reading.specs.inner.Iterating.{CanRead}
use Rattle.icu_table_entries.specs.Elements.{Element, end_element}
use Rattle.icu_element_reading.specs.declared.collation_elements.Progress.{Progress}
use Rattle.icu_element_reading.specs.declared.collation_elements.Progress.TheVariants.{Reading, Refused}
use Rattle.icu_element_reading.specs.declared.collation_elements.CollationElements.{CollationElements}
use Rattle.icu_element_reading.specs.inner.ReadyElements.{ready_elements}
use Rattle.icu_element_reading.specs.inner.Streams.{HasElements}

-- these elements are to come: those that stand ready, and those of the text that is left and of what its source has
abbrev pub HasSource : {I : Type 0} → (I → Option ℕ → I → Type 0) → CollationElements I → List Element → Type 0
HasSource steps s es = HasElements steps s.reader.reading s.source s.reader.position (ready_elements s.reader) es

-- After an allocation failed no element comes.
abbrev pub IsLeftAt : {I : Type 0} → Progress → (I → Option ℕ → I → Type 0) → CollationElements I → List Element → Type 0
IsLeftAt Reading steps s es = HasSource steps s es
IsLeftAt Refused steps s es = es ≡ []

-- these elements are still to come, and then the end element for ever, unless an allocation fails
unfoldable pub StillGives : {I : Type 0} → (I → Option ℕ → I → Type 0) → CollationElements I → List Element → Type 0
StillGives steps s es = IsLeftAt s.progress steps s es

-- its source may be called, or none is needed after an allocation failed
abbrev pub IsReadyAt : {I : Type 0} → Progress → (I → Type 0) → (I → Count) → CollationElements I → Type 0
IsReadyAt Reading can left s = CanRead can left s.source
IsReadyAt Refused can left s = ⊤

-- it may be called: so may its source, as long as no allocation failed
unfoldable pub CanGive : {I : Type 0} → (I → Type 0) → (I → Count) → CollationElements I → Type 0
CanGive can left s = IsReadyAt s.progress can left s

-- an allocation failed
abbrev pub IsRefused : {I : Type 0} → CollationElements I → Type 0
IsRefused s = s.progress ≡ Refused

-- the first of these elements, or the end element
abbrev pub first_of : List Element → Element
first_of [] = end_element
first_of (e ∷ es) = e

-- the elements after the first
abbrev pub rest_of : List Element → List Element
rest_of [] = []
rest_of (e ∷ es) = es
