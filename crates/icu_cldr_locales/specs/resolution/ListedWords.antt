-- Lists of words, as CLDR's data are compiled into this crate: words with a space between, alone or in rows of three.
use Rattle.std.specs.Prelude.{ℕ, ◌==◌, ◌&&◌, Bool, List, ◌∷◌, Option, Some, None, unwrap_or, bytes_eq, if◌then◌else◌}
use Rattle.std.specs.List.{list_any, slice_split}

-- the words of a list, which stand between spaces
abbrev pub words_of : List ℕ → List (List ℕ)
words_of list = slice_split (λ b. b == 32) list

-- the third word of the first row that begins with two words
unfoldable pub value_in_rows : List ℕ → List ℕ → List (List ℕ) → Option (List ℕ)
value_in_rows first second (a ∷ b ∷ value ∷ rows) = if bytes_eq a first && bytes_eq b second then Some value else value_in_rows first second rows
value_in_rows first second _ = None

-- what a list has for a subtag and another one that stands with it, which may be empty
abbrev pub value_listed : List ℕ → List ℕ → List ℕ → Option (List ℕ)
value_listed list first second = value_in_rows first second (words_of list)

-- what a list has for both, or else another value
abbrev pub value_or : List ℕ → List ℕ → List ℕ → List ℕ → List ℕ
value_or list first second other = unwrap_or (value_listed list first second) other

-- whether a word is one of a list
abbrev pub is_word_of : List ℕ → List ℕ → Bool
is_word_of list word = list_any (λ w. bytes_eq w word) (words_of list)
