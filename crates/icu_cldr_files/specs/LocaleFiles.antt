-- The files of locales, and in which of them the rules of a locale are (UTS #35 part 5, "Collation Type Fallback").
use Rattle.std.specs.Prelude.{◌≡◌, ℕ, Bool, ◌&&◌, List, Option, Some, None, find, is_none, bytes_eq, string_bytes, codes, option_map, option_and_then, unwrap_or}
use Rattle.icu_cldr_files.specs.declared.collation.Collation.{Collation}
use Rattle.icu_cldr_files.specs.declared.collation_file.CollationFile.{CollationFile}
use Rattle.icu_cldr_files.specs.declared.locale_files.LocaleFile.{LocaleFile}
use Rattle.icu_cldr_files.specs.declared.locale_files.FoundCollation.{FoundCollation}
use Rattle.icu_cldr_files.specs.LocaleParents.{parent_of}

-- whether a collation is the usual one of a type: no `alt` says that it is another
abbrev pub is_usual_of : List ℕ → Collation → Bool
is_usual_of collation_type c = bytes_eq (string_bytes c.collation_type) collation_type && is_none c.alt

-- the collation of a type in a file
abbrev pub collation_named : List ℕ → CollationFile → Option Collation
collation_named collation_type file = find (is_usual_of collation_type) file.collations.items

-- the file of a locale
abbrev pub file_of : List LocaleFile → List ℕ → Option LocaleFile
file_of files locale = find (λ f. bytes_eq (string_bytes f.locale) locale) files

-- the default type that the file of a locale names
abbrev pub default_at : List LocaleFile → List ℕ → Option (List ℕ)
default_at files locale = option_and_then (λ f. option_map string_bytes f.file.default_type) (file_of files locale)

-- the collation of a type in the file of a locale, with that file
abbrev pub collation_at : List LocaleFile → List ℕ → List ℕ → Option (LocaleFile × Collation)
collation_at files collation_type locale =
    option_and_then (λ f. option_map (λ c. (f, c)) (collation_named collation_type f.file)) (file_of files locale)

-- a collation that was found, with its file
abbrev pub found_parts : FoundCollation → LocaleFile × Collation
found_parts found = (found.file.now, found.collation.now)

-- what is looked for is found at a locale, or else at its parent, and so on; or nowhere, up to the root
pub data FindsUp {A : Type 0} (look : List ℕ → Option A) : List ℕ → Option A → Type 0 where
  here : {locale : List ℕ} {found : A} → look locale ≡ Some found → FindsUp look locale (Some found)
  further : {locale parent : List ℕ} {found : Option A} → look locale ≡ None → parent_of locale ≡ Some parent
      → FindsUp look parent found → FindsUp look locale found
  nowhere : {locale : List ℕ} → look locale ≡ None → parent_of locale ≡ None → FindsUp look locale None

-- the default type of a locale: the one that is named first on the way to the root, or else `standard`
abbrev pub IsDefaultOf : List LocaleFile → List ℕ → List ℕ → Type 0
IsDefaultOf files locale default_type = (named : Option (List ℕ)) × FindsUp (default_at files) locale named
    × (default_type ≡ unwrap_or named (codes "standard"))
