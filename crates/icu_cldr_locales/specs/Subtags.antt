-- The subtags of a language tag: the form of each kind, and which may stand behind which (UTS #35 part 1, "Unicode
-- Language and Locale Identifiers", "Unicode BCP 47 U Extension").
use Rattle.std.specs.Prelude.{ℕ, ◌==◌, ◌&&◌, ◌||◌, not, nat_le, nat_lt, true, false, List, [], ◌∷◌, length, map, slice_index, encode_utf8_all, Bool, Option, None, Some, if◌then◌else◌}
use Rattle.std.specs.List.{list_all, find, enumerate_from}
use Rattle.std.specs.Str.{chars}
use Rattle.std.specs.Char.{to_ascii_lowercase, to_ascii_uppercase}
use Rattle.icu_cldr_locales.specs.declared.subtag.SubtagKind.{SubtagKind}
use Rattle.icu_cldr_locales.specs.declared.subtag.SubtagKind.TheVariants.{Language, Script, Region, Variant, UnicodeExtension, Attribute, Key, TypePart, OtherExtension, ExtensionPart, PrivateUse, PrivatePart}

-- a letter of ASCII (alpha)
abbrev pub is_letter : ℕ → Bool
is_letter b = (nat_le 97 b && nat_le b 122) || (nat_le 65 b && nat_le b 90)

-- a digit of ASCII (digit)
abbrev pub is_digit : ℕ → Bool
is_digit b = nat_le 48 b && nat_le b 57

-- a letter or a digit of ASCII (alphanum)
abbrev pub is_alphanumeric : ℕ → Bool
is_alphanumeric b = is_letter b || is_digit b

-- a subtag of so many bytes
abbrev pub has_length : ℕ → ℕ → List ℕ → Bool
has_length low high s = nat_le low (length s) && nat_le (length s) high

-- one to eight letters and digits
unfoldable pub is_subtag : List ℕ → Bool
is_subtag s = has_length 1 8 s && list_all is_alphanumeric s

-- the subtag of one letter, in either case: b is its code in lower case
abbrev pub is_the_letter : ℕ → List ℕ → Bool
is_the_letter b s = length s == 1 && to_ascii_lowercase (slice_index s 0) == b

-- the form of a subtag of each kind, which has letters and digits alone: `de`, `Latn`, `DE` or `419`, `posix` or
-- `1996`; `u`, `abc`, `co`, `phonebk`; `t` and any other letter or digit; `x`
unfoldable pub consists_of : SubtagKind → List ℕ → Bool
consists_of Language s = (has_length 2 3 s || has_length 5 8 s) && list_all is_letter s
consists_of Script s = has_length 4 4 s && list_all is_letter s
consists_of Region s = (has_length 2 2 s && list_all is_letter s) || (has_length 3 3 s && list_all is_digit s)
consists_of Variant s = has_length 5 8 s || (has_length 4 4 s && is_digit (slice_index s 0))
consists_of UnicodeExtension s = is_the_letter 117 s
consists_of Attribute s = has_length 3 8 s
consists_of Key s = has_length 2 2 s && is_letter (slice_index s 1)
consists_of TypePart s = has_length 3 8 s
consists_of OtherExtension s = has_length 1 1 s && not (is_the_letter 117 s || is_the_letter 120 s)
consists_of ExtensionPart s = has_length 2 8 s
consists_of PrivateUse s = is_the_letter 120 s
consists_of PrivatePart s = has_length 1 8 s

-- what may stand behind a language, a script, a region or a variant, and behind an extension
abbrev pub extensions : List SubtagKind
extensions = UnicodeExtension ∷ OtherExtension ∷ PrivateUse ∷ []

-- the kinds of subtags that may stand behind one, and at the beginning
unfoldable pub kinds_behind : Option SubtagKind → List SubtagKind
kinds_behind None = Language ∷ []
kinds_behind (Some Language) = Script ∷ Region ∷ Variant ∷ extensions
kinds_behind (Some Script) = Region ∷ Variant ∷ extensions
kinds_behind (Some Region) = Variant ∷ extensions
kinds_behind (Some Variant) = Variant ∷ extensions
kinds_behind (Some UnicodeExtension) = Attribute ∷ Key ∷ []
kinds_behind (Some Attribute) = Attribute ∷ Key ∷ extensions
kinds_behind (Some Key) = TypePart ∷ Key ∷ extensions
kinds_behind (Some TypePart) = TypePart ∷ Key ∷ extensions
kinds_behind (Some OtherExtension) = ExtensionPart ∷ []
kinds_behind (Some ExtensionPart) = ExtensionPart ∷ extensions
kinds_behind (Some PrivateUse) = PrivatePart ∷ []
kinds_behind (Some PrivatePart) = PrivatePart ∷ []

-- the kind of a subtag behind one of a kind: none where no subtag of that form may stand
unfoldable pub kind_behind : Option SubtagKind → List ℕ → Option SubtagKind
kind_behind before s = if is_subtag s then find (λ kind. consists_of kind s) (kinds_behind before) else None

-- whether a tag may end behind a subtag of a kind: not where an extension is empty
unfoldable pub may_end_behind : Option SubtagKind → Bool
may_end_behind None = false
may_end_behind (Some UnicodeExtension) = false
may_end_behind (Some OtherExtension) = false
may_end_behind (Some PrivateUse) = false
may_end_behind (Some _) = true

-- a subtag that may stand in a tag once: a variant, and the letter of an extension
unfoldable pub stands_once : SubtagKind → Bool
stands_once Variant = true
stands_once UnicodeExtension = true
stands_once OtherExtension = true
stands_once _ = false

-- how many capitals a subtag of a kind begins with: `Latn`, `DE`, and no other has any
unfoldable pub capitals_of : SubtagKind → ℕ
capitals_of Script = 1
capitals_of Region = 3
capitals_of _ = 0

-- a character in its case, where so many are capitals
abbrev pub in_case : ℕ → ℕ × ℕ → ℕ
in_case capitals at = if nat_lt at.0 capitals then to_ascii_uppercase at.1 else to_ascii_lowercase at.1

-- a subtag in the case of its kind (UTS #35 part 1, "Canonical Unicode Locale Identifiers")
unfoldable pub in_case_of : SubtagKind → List ℕ → List ℕ
in_case_of kind s = encode_utf8_all (map (in_case (capitals_of kind)) (enumerate_from 0 (chars s)))
