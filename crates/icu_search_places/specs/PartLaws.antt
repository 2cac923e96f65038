-- What a part of a text is read as, by itself and in the whole.
use Rattle.std.specs.Prelude.{◌≡◌, ℕ, true, List, [], ◌∷◌, ◌++◌}
use Rattle.unicode_normalization.specs.Forms.{nfd}
use Rattle.icu_order_levels.specs.Keys.{LevelLists}
use Rattle.icu_order_levels.specs.CommonBeginnings.{HasFront}
use Rattle.icu_element_reading.specs.TextElements.{Reading, elements_of, elements_after}
use Rattle.icu_element_reading.specs.boundaries.LeftContexts.{context_left}
use Rattle.icu_order_texts.specs.weighting.Collations.{Collation}
use Rattle.icu_order_texts.specs.TextOrder.{reading_by, lists_by}
use Rattle.icu_search_places.specs.SearchPlaces.{is_place_before}

-- up to a place a text is read as the part before it is by itself
abbrev pub PartsAreReadAsInTheWhole : Type 0
PartsAreReadAsInTheWhole =
    (reading : Reading) (front back : List ℕ) → is_place_before reading (front ++ back) back ≡ true
    → elements_of reading (nfd (front ++ back))
    ≡ elements_of reading (nfd front) ++ elements_after reading (context_left reading [] (nfd front)) (nfd back)

-- the places of that part are those of the whole up to there
abbrev pub PartsHaveTheirPlaces : Type 0
PartsHaveTheirPlaces =
    (reading : Reading) (front : List ℕ) (c : ℕ) (mid back : List ℕ)
    → is_place_before reading (front ++ (c ∷ mid ++ back)) back ≡ true
    → is_place_before reading (front ++ (c ∷ mid ++ back)) (c ∷ mid ++ back) ≡ is_place_before reading (front ++ c ∷ mid) (c ∷ mid)

-- the list of each level of a text begins with that of a part before a place
abbrev pub ListsBeginWithThoseOfParts : Type 0
ListsBeginWithThoseOfParts =
    (c : Collation) (front back : List ℕ) → is_place_before (reading_by c) (front ++ back) back ≡ true
    → (rest : LevelLists) × HasFront (lists_by c (nfd front)) (lists_by c (nfd (front ++ back))) rest
