-- Which offsets of a text are places.
use Rattle.std.specs.Prelude.{◌≡◌, ℕ, ◌+◌, ◌≤◌, Bool, Some, List, length}
use Rattle.std.specs.Prelude.{slice_get}
use Rattle.icu_element_reading.specs.TextElements.{Reading}
use Rattle.icu_search_places.specs.SearchPlaces.{is_place}

-- a mark for each offset up to the end of a text: whether a place of it is there
pub record MarksPlaces (reading : Reading) (text : List ℕ) (marks : List Bool) : Type 0 where
  pub count : length marks ≡ length text + 1
  pub at : (k : ℕ) → k ≤ length text → slice_get marks k ≡ Some (is_place reading text k)
