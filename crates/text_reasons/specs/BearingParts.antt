-- The part of a text that bears an element.
use Rattle.std.specs.Prelude.{ℕ, ◌+◌, nat_le, List, [], ◌∷◌, if◌then◌else◌, length}
use Rattle.icu_element_reading.specs.TextElements.{Reading}
use Rattle.icu_search_places.specs.SearchPlaces.{is_place}
use Rattle.text_reasons.specs.Explanations.{elements_up_to, part_of}

-- Of what is left of a text, whose next character is the k-th, the first part up to whose end the text has so many
-- elements, or nothing. The part that is being read began at a start
abbrev pub part_from : Reading → List ℕ → ℕ → ℕ → ℕ → List ℕ → List ℕ
part_from reading text count start k [] = []
part_from reading text count start k (c ∷ left) =
    if is_place reading text (k + 1)
    then (if nat_le count (length (elements_up_to reading text (k + 1))) then part_of text start (k + 1)
    else part_from reading text count (k + 1) (k + 1) left)
    else part_from reading text count start (k + 1) left

-- The first part of a text, between its places, up to whose end the text has so many elements: the one that bears the
-- last of them
abbrev pub part_with : Reading → List ℕ → ℕ → List ℕ
part_with reading text count = part_from reading text count 0 0 text
