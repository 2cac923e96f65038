-- The names of types, and which types stand in for one that a locale doesn't have (UTS #35 part 5, "Collation Type
-- Fallback").
use Rattle.std.specs.Prelude.{ℕ, Bool, ◌&&◌, nat_lt, nat_eq, List, [], ◌∷◌, length, Option, Some, None, bytes_eq, codes, if◌then◌else◌}
use Rattle.std.specs.List.{starts_with}
use Rattle.icu_cldr_files.specs.declared.collation.Collation.{Collation}
use Rattle.icu_cldr_files.specs.declared.locale_files.LocaleFile.{LocaleFile}
use Rattle.icu_cldr_files.specs.LocaleFiles.{FindsUp, collation_at}

-- the type that a name of BCP 47 names, as files name it
abbrev pub type_named : List ℕ → List ℕ
type_named name =
    if bytes_eq name (codes "phonebk") then codes "phonebook"
    else (if bytes_eq name (codes "trad") then codes "traditional"
    else (if bytes_eq name (codes "dict") then codes "dictionary"
    else (if bytes_eq name (codes "gb2312") then codes "gb2312han" else name)))

-- whether a type begins with `search` and goes on
abbrev pub is_long_search : List ℕ → Bool
is_long_search collation_type = nat_lt 6 (length collation_type) && starts_with nat_eq collation_type (codes "search")

-- what is looked for is found by the first of some types by which it is found at all
pub data FindsFirst {A : Type 0} (finds : List ℕ → Option A → Type 0) : List (List ℕ) → Option A → Type 0 where
  by_this : {kind : List ℕ} {kinds : List (List ℕ)} {found : A} → finds kind (Some found) → FindsFirst finds (kind ∷ kinds) (Some found)
  by_later : {kind : List ℕ} {kinds : List (List ℕ)} {found : Option A} → finds kind None → FindsFirst finds kinds found
      → FindsFirst finds (kind ∷ kinds) found
  by_none : FindsFirst finds [] None

-- what is found of a type, on the way from a locale to the root
abbrev pub FindsType : List LocaleFile → List ℕ → List ℕ → Option (LocaleFile × Collation) → Type 0
FindsType files locale collation_type found = FindsUp (collation_at files collation_type) locale found

-- the types that are asked for at last: the default type of the locale and `standard`
abbrev pub last_types : List ℕ → List (List ℕ)
last_types default_type = default_type ∷ codes "standard" ∷ []

-- the types that stand in for one: first `search`, where it begins so
abbrev pub stand_ins : List ℕ → List ℕ → List (List ℕ)
stand_ins collation_type default_type =
    if is_long_search collation_type then codes "search" ∷ last_types default_type else last_types default_type

-- the types that are asked for in turn: first the one that is named
abbrev pub types_in_turn : List ℕ → List ℕ → List (List ℕ)
types_in_turn collation_type default_type = collation_type ∷ stand_ins collation_type default_type
