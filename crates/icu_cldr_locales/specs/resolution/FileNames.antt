-- The names of the files in which the collations of a locale may be, in turn (UTS #35 part 5, "Collation Type
-- Fallback").
use Rattle.std.specs.Prelude.{ℕ, ◌==◌, ◌&&◌, ◌||◌, not, Bool, List, [], ◌∷◌, ◌++◌, length, bytes_eq, codes, if◌then◌else◌}
use Rattle.icu_cldr_locales.specs.declared.resolution.locale_data.LocaleData.{LocaleData}
use Rattle.icu_cldr_locales.specs.resolution.LocaleParts.{LocaleParts}
use Rattle.icu_cldr_locales.specs.resolution.CanonicalParts.{likely_script}

-- a part with `_` before it; nothing where it is empty
abbrev pub marked_part : List ℕ → List ℕ
marked_part part = if length part == 0 then [] else 95 ∷ part

-- a variant as files name it: they write the one that they have in capitals
abbrev pub file_variant : List ℕ → List ℕ
file_variant variant = if bytes_eq variant (codes "posix") then codes "POSIX" else variant

-- the name of a file
abbrev pub file_name : LocaleParts → List ℕ
file_name p = ((p.language ++ marked_part p.script) ++ marked_part p.region) ++ marked_part (file_variant p.variant)

-- the name of a file, where there may be one
abbrev pub name_if : Bool → LocaleParts → List (List ℕ)
name_if may_be p = if may_be then file_name p ∷ [] else []

-- the files of a region: with the variant first, if there is one
abbrev pub region_names : Bool → LocaleParts → List (List ℕ)
region_names may_be p =
    name_if (may_be && not (length p.region == 0) && not (length p.variant == 0)) p
    ++ name_if (may_be && not (length p.region == 0)) (record p { variant = [] })

-- whether files needn't name the script: there is none, or the one that is likely for language and region
abbrev pub has_usual_script : LocaleData → LocaleParts → Bool
has_usual_script d p = length p.script == 0 || bytes_eq p.script (likely_script d p.language p.region)

-- the files of a language and a region without a script
abbrev pub without_script : LocaleParts → LocaleParts
without_script p = record p { script = [] }

-- the language alone
abbrev pub language_alone : LocaleParts → LocaleParts
language_alone p = record { language = p.language; script = []; region = []; variant = [] }

-- the language and the script
abbrev pub language_and_script : LocaleParts → LocaleParts
language_and_script p = record p { region = []; variant = [] }

-- whether a language is one of both written forms of Norwegian, which go by the file of `no`
abbrev pub is_norwegian : List ℕ → Bool
is_norwegian language = bytes_eq language (codes "nb") || bytes_eq language (codes "nn")

-- the parts of Norwegian
abbrev pub norwegian : LocaleParts
norwegian = record { language = codes "no"; script = []; region = []; variant = [] }

-- the parts of the root
abbrev pub root_parts : LocaleParts
root_parts = record { language = codes "root"; script = []; region = []; variant = [] }

-- the names of files that have a region: with the script, and without it
abbrev pub names_with_region : LocaleData → LocaleParts → List (List ℕ)
names_with_region d p = region_names (not (length p.script == 0)) p ++ region_names (has_usual_script d p) (without_script p)

-- the names of files that have none: with the script, and the language's own
abbrev pub names_without_region : LocaleParts → List (List ℕ)
names_without_region p = name_if (not (length p.script == 0)) (language_and_script p) ++ file_name (language_alone p) ∷ []

-- the names of files that have no region, and then that of Norwegian
abbrev pub names_of_language : LocaleParts → List (List ℕ)
names_of_language p = names_without_region p ++ name_if (is_norwegian p.language) norwegian

-- the names of files that have a language
abbrev pub language_names : LocaleData → LocaleParts → List (List ℕ)
language_names d p = names_with_region d p ++ names_of_language p

-- the names of all files in turn, the root's last; without a language the root's alone
unfoldable pub file_names : LocaleData → LocaleParts → List (List ℕ)
file_names d p =
    if bytes_eq p.language (codes "und") then file_name root_parts ∷ [] else language_names d p ++ file_name root_parts ∷ []
