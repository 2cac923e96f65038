-- The parents of locales, as collations go by them: by the parts of the name (UTS #35 part 1, "Parent Locales"), and
-- not by the list of parents that is there for other data.
use Rattle.std.specs.Prelude.{ℕ, ◌==◌, ◌||◌, List, [], ◌∷◌, Option, Some, None, bytes_eq, codes, if◌then◌else◌}
use Rattle.std.specs.Option.{option_or}

-- the parent of a language: of both written forms of Norwegian it is `no`, of any other the root
abbrev pub parent_of_language : List ℕ → Option (List ℕ)
parent_of_language language =
    if bytes_eq language (codes "root") then None
    else (if bytes_eq language (codes "nb") || bytes_eq language (codes "nn") then Some (codes "no")
    else Some (codes "root"))

-- what stands before the last `_` of a byte and a text, by what stands before that of the text
abbrev pub mark_before : ℕ → Option (List ℕ) → Option (List ℕ)
mark_before b (Some before) = Some (b ∷ before)
mark_before b None = if b == 95 then Some [] else None

-- what stands before the last `_`, if there is one
unfoldable pub before_last_mark : List ℕ → Option (List ℕ)
before_last_mark [] = None
before_last_mark (b ∷ text) = mark_before b (before_last_mark text)

-- the parent of a locale: what stands before its last part, or else that of the language
unfoldable pub parent_of : List ℕ → Option (List ℕ)
parent_of locale = option_or (before_last_mark locale) (parent_of_language locale)
