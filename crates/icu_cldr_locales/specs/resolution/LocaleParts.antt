-- The parts of a tag by which the files of its locale are named (UTS #35 part 1, "Unicode Language Identifier").
use Rattle.std.specs.Prelude.{ℕ, Bool, true, false, List, [], Option, Some, None, find, bytes_eq, string_bytes, codes, if◌then◌else◌}
use Rattle.icu_cldr_locales.specs.declared.subtag.Subtag.{Subtag}
use Rattle.icu_cldr_locales.specs.declared.subtag.SubtagKind.{SubtagKind}
use Rattle.icu_cldr_locales.specs.declared.subtag.SubtagKind.TheVariants.{Language, Script, Region, Variant}
use Rattle.icu_cldr_locales.specs.declared.resolution.locale_parts.TagParts.{TagParts}
use Rattle.icu_cldr_locales.specs.Keywords.{word_behind}

-- a language, a script, a region and a variant, each of which is empty where there is none
pub record LocaleParts : Type 0 where
  pub language : List ℕ
  pub script : List ℕ
  pub region : List ℕ
  pub variant : List ℕ

-- what parts of the code are
abbrev pub said_parts : TagParts → LocaleParts
said_parts p = record { language = p.language.now; script = p.script.now; region = p.region.now; variant = p.variant.now }

-- whether a subtag is a script
abbrev pub is_script_kind : SubtagKind → Bool
is_script_kind Script = true
is_script_kind _ = false

-- whether it is a region
abbrev pub is_region_kind : SubtagKind → Bool
is_region_kind Region = true
is_region_kind _ = false

-- whether it is a variant
abbrev pub is_variant_kind : SubtagKind → Bool
is_variant_kind Variant = true
is_variant_kind _ = false

-- whether it is a language
abbrev pub is_language_kind : SubtagKind → Bool
is_language_kind Language = true
is_language_kind _ = false

-- the text of a subtag, empty where there is none
abbrev pub text_or_empty : Option Subtag → List ℕ
text_or_empty None = []
text_or_empty (Some s) = string_bytes s.text

-- the first subtag of a kind
abbrev pub text_of_kind : (SubtagKind → Bool) → List Subtag → List ℕ
text_of_kind is_kind subtags = text_or_empty (find (λ s. is_kind s.kind) subtags)

-- a part that isn't the one that stands for none (`Zzzz`, `ZZ`)
abbrev pub unless_is : List ℕ → List ℕ → List ℕ
unless_is none part = if bytes_eq part none then [] else part

-- the variant: `posix` where the keyword `va` says so, else the first one
abbrev pub variant_said : Option (List ℕ) → List ℕ → List ℕ
variant_said None variant = variant
variant_said (Some word) variant = if bytes_eq word (codes "posix") then codes "posix" else variant

-- the parts of a tag
unfoldable pub tag_parts : List Subtag → LocaleParts
tag_parts subtags = record {
  language = text_of_kind is_language_kind subtags;
  script = unless_is (codes "Zzzz") (text_of_kind is_script_kind subtags);
  region = unless_is (codes "ZZ") (text_of_kind is_region_kind subtags);
  variant = variant_said (word_behind (codes "va") subtags) (text_of_kind is_variant_kind subtags);
}
