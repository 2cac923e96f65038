-- Which collation a tag names that rules import (UTS #35 part 1, "Unicode Language and Locale Identifiers"; part 5,
-- "Collation Tailorings").
use Rattle.std.specs.Prelude.{◌≡◌, ℕ, List, Option, option_map, unwrap_or, bytes_eq, string_bytes, codes, if◌then◌else◌}
use Rattle.icu_cldr_locales.specs.declared.subtag.Subtag.{Subtag}
use Rattle.icu_cldr_locales.specs.Keywords.{joined, locale_of, type_of}
use Rattle.icu_cldr_files.specs.CollationTypes.{type_named}
use Rattle.icu_cldr_locales.specs.declared.locale_rules.collation_name.CollationName.{CollationName}

-- The name of the file of a locale that rules import, by the parts of its tag: the root's has a name of its own, and
-- files write variants in capitals, of which there is one. An import names its file: no code stands for another one.
unfoldable pub file_name_of : List ℕ → List ℕ
file_name_of locale =
    if bytes_eq locale (codes "und") then codes "root"
    else (if bytes_eq locale (codes "en_US_posix") then codes "en_US_POSIX" else locale)

-- the type that the keyword `co` of a tag names, as files name it
abbrev pub named_type : List Subtag → Option (List ℕ)
named_type subtags = option_map (λ parts. type_named (joined (codes "-") parts)) (type_of (codes "co") subtags)

-- the collation that an imported tag names
pub record NamesCollation (subtags : List Subtag) (name : CollationName) : Type 0 where
  pub locale : string_bytes name.locale ≡ file_name_of (joined (codes "_") (locale_of subtags))
  pub collation_type : option_map string_bytes name.collation_type ≡ named_type subtags

-- the type that rules import by a name
abbrev pub type_or_standard : CollationName → List ℕ
type_or_standard name = unwrap_or (option_map string_bytes name.collation_type) (codes "standard")
