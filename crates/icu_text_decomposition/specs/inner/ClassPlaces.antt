-- Places from which the marks of each class of a run go on.
use Rattle.std.specs.Prelude.{ℕ, ◌-◌, nat_lt, List, [], Option, Some, None, if◌then◌else◌}
use Rattle.icu_text_decomposition.specs.declared.char_parts.Parts.{Parts}
use Rattle.icu_text_decomposition.specs.declared.class_places.ClassPlaces.{ClassPlaces}
use Rattle.icu_text_decomposition.specs.MarkClasses.{of_class}
use Rattle.icu_text_decomposition.specs.inner.ClassNumbers.{class_number}
use Rattle.icu_text_decomposition.specs.inner.FrontMarks.{front_marks}
use Rattle.icu_text_decomposition.specs.inner.MarksLeft.{lists_from}
use Rattle.icu_text_decomposition.specs.inner.Parts.{parts_left}
use Rattle.icu_text_decomposition.specs.inner.SlotTrees.{one_at, pair_at}

-- what stands in the slot with a number
abbrev pub slots_at : {T : Type 0} → ClassPlaces T → ℕ → Option (Parts T)
slots_at p = pair_at (pair_at (pair_at (pair_at (pair_at (pair_at one_at))))) p.slots

-- the place from which the marks of a class go on
abbrev pub places_of : {T : Type 0} → ClassPlaces T → ℕ → Option (Parts T)
places_of p k = if nat_lt (class_number k) 55 then slots_at p (class_number k) else None

-- the marks of a class from a place on, or these characters' where there is no place yet
abbrev pub found_left : {T : Type 0} → (T → List ℕ) → ℕ → Option (Parts T) → List ℕ → List ℕ
found_left text k None cs = of_class k (front_marks cs)
found_left text k (Some at) cs = of_class k (front_marks (parts_left text at))

-- the marks of a class from a place on, or none where there is no place
abbrev pub place_left : {T : Type 0} → (T → List ℕ) → ℕ → Option (Parts T) → List ℕ
place_left text k None = []
place_left text k (Some at) = of_class k (front_marks (parts_left text at))

-- the marks that are left of a class
abbrev pub class_left : {T : Type 0} → (T → List ℕ) → ClassPlaces T → ℕ → List ℕ
class_left text p k = place_left text k (places_of p k)

-- the marks that are left of this class and of those above it
abbrev pub marks_from : {T : Type 0} → (T → List ℕ) → ClassPlaces T → ℕ → List ℕ
marks_from text p k = lists_from (class_left text p) (256 - k) k
