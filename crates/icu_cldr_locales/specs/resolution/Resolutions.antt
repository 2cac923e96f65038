-- What a tag resolves to: a collation of a file, and whether it is what was asked for (UTS #35 part 1, "BCP 47
-- Conformance", "Likely Subtags"; part 5, "Collation Type Fallback").
use Rattle.std.specs.Prelude.{ℕ, ◌&&◌, ◌||◌, Bool, nat_eq, List, [], ◌∷◌, Option, Some, None, is_some, unwrap_or, bytes_eq, string_bytes, map, option_map, codes, if◌then◌else◌}
use Rattle.std.specs.Option.{option_or}
use Rattle.std.specs.List.{starts_with}
use Rattle.icu_cldr_files.specs.declared.collation.Collation.{Collation}
use Rattle.icu_cldr_files.specs.declared.locale_files.LocaleFile.{LocaleFile}
use Rattle.icu_cldr_files.specs.CollationTypes.{is_long_search}
use Rattle.icu_cldr_files.specs.LocaleFiles.{collation_at, default_at, found_parts}
use Rattle.icu_cldr_locales.specs.declared.subtag.Subtag.{Subtag}
use Rattle.icu_cldr_locales.specs.declared.resolution.locale_data.LocaleData.{LocaleData}
use Rattle.icu_cldr_locales.specs.declared.resolution.tag_request.TagRequest.{TagRequest}
use Rattle.icu_cldr_locales.specs.declared.resolution.resolutions.Resolution.{Resolution}
use Rattle.icu_cldr_locales.specs.locale_rules.CollationNames.{named_type}
use Rattle.icu_cldr_locales.specs.resolution.CanonicalParts.{canonical_parts}
use Rattle.icu_cldr_locales.specs.resolution.FileNames.{file_names}
use Rattle.icu_cldr_locales.specs.resolution.KnownLanguages.{is_known_language}

-- what is found by the first of some names by which it is found at all
unfoldable pub first_by : {A : Type 0} → (List ℕ → Option A) → List (List ℕ) → Option A
first_by look [] = None
first_by look (name ∷ names) = option_or (look name) (first_by look names)

-- what is looked for: the files by their names in turn, a type if one is asked for, and whether CLDR knows the language
pub record RequestParts : Type 0 where
  pub names : List (List ℕ)
  pub collation_type : Option (List ℕ)
  pub known : Bool

-- what a request of the code is
abbrev pub request_parts : TagRequest → RequestParts
request_parts r = record {
  names = map string_bytes r.names.items;
  collation_type = option_map string_bytes r.collation_type;
  known = r.is_known;
}

-- what a tag asks for
abbrev pub asked_parts : LocaleData → List Subtag → RequestParts
asked_parts d subtags = record {
  names = file_names d (canonical_parts d subtags);
  collation_type = named_type subtags;
  known = is_known_language d (canonical_parts d subtags).language;
}

-- the collation of a type, in the first of the files that has one
abbrev pub collation_among : List LocaleFile → List (List ℕ) → List ℕ → Option (LocaleFile × Collation)
collation_among files names collation_type = first_by (collation_at files collation_type) names

-- the default type: that of the first of the files that names one
abbrev pub default_among : List LocaleFile → List (List ℕ) → List ℕ
default_among files names = unwrap_or (first_by (default_at files) names) (codes "standard")

-- whether a type is one that only rules import
abbrev pub is_private_type : List ℕ → Bool
is_private_type collation_type = starts_with nat_eq collation_type (codes "private-")

-- the collation of a type that may be asked for
abbrev pub own_collation : List LocaleFile → List (List ℕ) → List ℕ → Option (LocaleFile × Collation)
own_collation files names collation_type = if is_private_type collation_type then None else collation_among files names collation_type

-- the collation of the default type, or else of `standard`
abbrev pub usual_collation : List LocaleFile → List (List ℕ) → Option (LocaleFile × Collation)
usual_collation files names =
    option_or (collation_among files names (default_among files names)) (collation_among files names (codes "standard"))

-- the collation that stands in for one of a type that isn't there: of `search` for a longer type that begins so, else
-- the usual one; the root's order for `standard`
abbrev pub stand_in_for : List LocaleFile → List (List ℕ) → List ℕ → Option (LocaleFile × Collation)
stand_in_for files names collation_type =
    if bytes_eq collation_type (codes "standard") then None
    else (if is_long_search collation_type
    then option_or (collation_among files names (codes "search")) (usual_collation files names)
    else usual_collation files names)

-- what a tag resolves to: a collation and its file, or the root's order; and whether that is what it asks for
pub record ResolutionParts : Type 0 where
  pub found : Option (LocaleFile × Collation)
  pub exact : Bool

-- what a resolution of the code is
abbrev pub resolution_parts : Resolution → ResolutionParts
resolution_parts r = record { found = option_map found_parts r.found; exact = r.is_exact }

-- what a request without a type resolves to
abbrev pub usual_resolution : List LocaleFile → RequestParts → ResolutionParts
usual_resolution files r = record { found = usual_collation files r.names; exact = r.known }

-- what a request of a type resolves to
abbrev pub resolution_by : List LocaleFile → RequestParts → List ℕ → ResolutionParts
resolution_by files r collation_type = record {
  found = option_or (own_collation files r.names collation_type) (stand_in_for files r.names collation_type);
  exact = r.known && (is_some (own_collation files r.names collation_type) || bytes_eq collation_type (codes "standard"));
}

-- what a request resolves to
abbrev pub resolution_of : List LocaleFile → RequestParts → Option (List ℕ) → ResolutionParts
resolution_of files r None = usual_resolution files r
resolution_of files r (Some collation_type) = resolution_by files r collation_type

-- what a tag resolves to, by CLDR's lists and by the files of a folder
abbrev pub resolved : LocaleData → List LocaleFile → List Subtag → ResolutionParts
resolved d files subtags = resolution_of files (asked_parts d subtags) (named_type subtags)
