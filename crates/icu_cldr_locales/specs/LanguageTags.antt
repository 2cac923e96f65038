-- Language tags, as texts spell them (UTS #35 part 1, "Unicode Language and Locale Identifiers").
use Rattle.std.specs.Prelude.{ℕ, ◌==◌, ◌&&◌, ◌≤◌, List, [], ◌∷◌, ◌++◌, map, Bool, Option, None, Some, option_and_then, bytes_eq, string_bytes, if◌then◌else◌}
use Rattle.std.specs.List.{list_any, slice_split, join_with_byte}
use Rattle.icu_cldr_locales.specs.declared.subtag.SubtagKind.{SubtagKind}
use Rattle.icu_cldr_locales.specs.declared.subtag.Subtag.{Subtag}
use Rattle.icu_cldr_locales.specs.declared.tag_error.TagError.{TagError}
use Rattle.icu_cldr_locales.specs.declared.tag_error.TagError.TheVariants.{NoMemory, Refused}
use Rattle.icu_cldr_locales.specs.Subtags.{kind_behind, may_end_behind, stands_once, in_case_of}

-- a subtag: its kind, and its characters in the case of its kind
pub record SubtagText : Type 0 where
  pub kind : SubtagKind
  pub text : List ℕ

-- what subtags of the code are
abbrev pub subtag_text_of : Subtag → SubtagText
subtag_text_of s = record { kind = s.kind; text = string_bytes s.text }

-- what each of several subtags is
abbrev pub texts_of : List Subtag → List SubtagText
texts_of subtags = map subtag_text_of subtags

-- the parts of a text between hyphens
abbrev pub subtags_of : List ℕ → List (List ℕ)
subtags_of text = slice_split (λ b. b == 45) text

-- whether a subtag stands among others already, and may stand there once
unfoldable pub is_repeated : List SubtagText → SubtagText → Bool
is_repeated before s = stands_once s.kind && list_any (λ other. bytes_eq other.text s.text) before

-- the subtag of a kind that a part of a text is behind others: none where it is repeated
unfoldable pub subtag_as : List SubtagText → List ℕ → SubtagKind → Option SubtagText
subtag_as before part kind =
    let s : SubtagText = record { kind = kind; text = in_case_of kind part } in
    if is_repeated before s then None else Some s

-- the subtag that a part of a text is behind others, the last of which has the kind `last`
unfoldable pub subtag_behind : List SubtagText → Option SubtagKind → List ℕ → Option SubtagText
subtag_behind before last part = option_and_then (subtag_as before part) (kind_behind last part)

-- the subtags that the parts of a text are behind others, and these before them
unfoldable pub subtags_behind : List SubtagText → Option SubtagKind → List (List ℕ) → Option (List SubtagText)
subtags_behind before last [] = if may_end_behind last then Some before else None
subtags_behind before last (part ∷ parts) =
    option_and_then (λ s. subtags_behind (before ++ s ∷ []) (Some s.kind) parts) (subtag_behind before last part)

-- the subtags that a text spells, if it is a language tag
abbrev pub language_tag_of : List ℕ → Option (List SubtagText)
language_tag_of text = subtags_behind [] None (subtags_of text)

-- how subtags are written: with hyphens between
abbrev pub written : List SubtagText → List ℕ
written subtags = join_with_byte 45 (map (λ s. s.text) subtags)

-- where an error is: a place within a text of so many bytes
abbrev pub IsWithinTag : ℕ → TagError → Type 0
IsWithinTag n NoMemory = Unit {0}
IsWithinTag n (Refused place kind) = place ≤ n
