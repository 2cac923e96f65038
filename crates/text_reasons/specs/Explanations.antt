-- What the collation elements of a text come from: the parts of the text between its places, which are read together,
-- each with its elements.
use Rattle.std.specs.Prelude.{ℕ, ◌+◌, ◌-◌, List, [], ◌∷◌, ◌++◌, if◌then◌else◌, drop, take, length, encode_utf8_all, codes}
use Rattle.unicode_normalization.specs.Forms.{nfd}
use Rattle.icu_table_entries.specs.Elements.{Element}
use Rattle.icu_element_reading.specs.TextElements.{Reading, elements_of}
use Rattle.icu_search_places.specs.SearchPlaces.{is_place}
use Rattle.text_reasons.specs.ShownElements.{code_points, elements_text}

-- a part of a text: the characters from a first one up to another
abbrev pub part_of : List ℕ → ℕ → ℕ → List ℕ
part_of text start stop = take (stop - start) (drop start text)

-- characters, a tab, their numbers, a tab, and elements
abbrev pub part_line : List ℕ → List Element → List ℕ
part_line characters elements =
    encode_utf8_all characters ++ (codes "\t" ++ (code_points characters ++ (codes "\t" ++ (elements_text elements ++ codes "\n"))))

-- the elements of so many characters of a text, by themselves
abbrev pub elements_up_to : Reading → List ℕ → ℕ → List Element
elements_up_to reading text k = elements_of reading (nfd (take k text))

-- The lines of what is left of a text, whose next character is the k-th. The part that is being read began at a start,
-- where so many elements had been given
abbrev pub lines_from : Reading → List ℕ → ℕ → ℕ → ℕ → List ℕ → List ℕ
lines_from reading text start given k [] = []
lines_from reading text start given k (c ∷ left) =
    if is_place reading text (k + 1)
    then part_line (part_of text start (k + 1)) (drop given (elements_up_to reading text (k + 1)))
    ++ lines_from reading text (k + 1) (length (elements_up_to reading text (k + 1))) (k + 1) left
    else lines_from reading text start given (k + 1) left

-- a line for each part of a text between its places
abbrev pub explanation_of : Reading → List ℕ → List ℕ
explanation_of reading text = lines_from reading text 0 0 0 text
