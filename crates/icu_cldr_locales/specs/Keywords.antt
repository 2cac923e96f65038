-- The keywords of a tag, and the settings that they name (UTS #35 part 5, "Setting Options").
use Rattle.std.specs.Prelude.{◌≡◌, ℕ, ◌&&◌, ◌||◌, not, List, [], ◌∷◌, ◌++◌, Bool, true, false, Option, None, Some, option_map, bytes_eq, string_bytes, codes, if◌then◌else◌}
use Rattle.std.specs.List.{before_first, flat_map}
use Rattle.icu_options.specs.declared.settings.Strength.{Strength}
use Rattle.icu_options.specs.declared.settings.Strength.TheVariants as strengths
use Rattle.icu_options.specs.declared.settings.AlternateHandling.{AlternateHandling}
use Rattle.icu_options.specs.declared.settings.AlternateHandling.TheVariants as handling
use Rattle.icu_options.specs.declared.settings.MaxVariable.{MaxVariable}
use Rattle.icu_options.specs.declared.settings.MaxVariable.TheVariants as groups
use Rattle.icu_options.specs.declared.settings.CaseLevel.{CaseLevel}
use Rattle.icu_options.specs.declared.settings.CaseLevel.TheVariants as levels
use Rattle.icu_options.specs.declared.settings.CollationCaseFirst.{CollationCaseFirst}
use Rattle.icu_options.specs.declared.settings.CollationCaseFirst.TheVariants as cases
use Rattle.icu_options.specs.declared.settings.CollationNumericOrdering.{CollationNumericOrdering}
use Rattle.icu_options.specs.declared.settings.CollationNumericOrdering.TheVariants as numeric
use Rattle.icu_cldr_locales.specs.declared.subtag.SubtagKind.{SubtagKind}
use Rattle.icu_cldr_locales.specs.declared.subtag.SubtagKind.TheVariants.{Language, Script, Region, Variant, Key, TypePart}
use Rattle.icu_cldr_locales.specs.declared.subtag.Subtag.{Subtag}
use Rattle.icu_cldr_locales.specs.declared.tag_settings.TagSettings.{TagSettings}
use Rattle.icu_cldr_locales.specs.declared.tag_settings.UnknownType.{UnknownType}
use Rattle.icu_cldr_locales.specs.declared.tag_settings.UnknownType.TheVariants as unknown

-- whether a subtag is the key of a keyword
abbrev pub is_key : SubtagKind → Bool
is_key Key = true
is_key _ = false

-- whether a subtag is a part of a keyword's type
abbrev pub is_type_part : SubtagKind → Bool
is_type_part TypePart = true
is_type_part _ = false

-- whether a subtag is the key of this name
abbrev pub is_key_named : List ℕ → Subtag → Bool
is_key_named key s = is_key s.kind && bytes_eq (string_bytes s.text) key

-- the type of a key, part by part: what stands behind the key where it stands first (a key that is there again doesn't
-- count)
unfoldable pub type_of : List ℕ → List Subtag → Option (List Subtag)
type_of key [] = None
type_of key (s ∷ subtags) =
    if is_key_named key s then Some (before_first (λ t. not (is_type_part t.kind)) subtags) else type_of key subtags

-- a type of one part, `true` where there is none; of several parts, no word
unfoldable pub word_of : List Subtag → List ℕ
word_of [] = codes "true"
word_of (s ∷ []) = string_bytes s.text
word_of (s ∷ t ∷ subtags) = []

-- the word of a key, if the key is there
unfoldable pub word_behind : List ℕ → List Subtag → Option (List ℕ)
word_behind key subtags = option_map word_of (type_of key subtags)

-- what a key sets: nothing where it isn't there, and none of the settings where its word is unknown
abbrev pub setting_of : {T : Type 0} → (List ℕ → Option T) → Option (List ℕ) → Option (Option T)
setting_of named None = Some None
setting_of named (Some word) = option_map (λ x. Some x) (named word)

-- the strength that a word names, by its type or an alias of that (CLDR's file bcp47/collation.xml); an alias of more
-- than eight letters can't stand in a tag
unfoldable pub strength_by_name : List ℕ → Option Strength
strength_by_name word =
    if bytes_eq word (codes "level1") || bytes_eq word (codes "primary") then Some strengths.Primary
    else (if bytes_eq word (codes "level2") then Some strengths.Secondary
    else (if bytes_eq word (codes "level3") || bytes_eq word (codes "tertiary") then Some strengths.Tertiary
    else (if bytes_eq word (codes "level4") then Some strengths.Quaternary
    else (if bytes_eq word (codes "identic") then Some strengths.Identical else None))))

-- the handling of variable elements that a word names
unfoldable pub handling_named : List ℕ → Option AlternateHandling
handling_named word =
    if bytes_eq word (codes "noignore") then Some handling.NonIgnorable
    else (if bytes_eq word (codes "shifted") then Some handling.Shifted else None)

-- the last group of variable characters that a word names
unfoldable pub group_named : List ℕ → Option MaxVariable
group_named word =
    if bytes_eq word (codes "space") then Some groups.Space
    else (if bytes_eq word (codes "punct") then Some groups.Punctuation
    else (if bytes_eq word (codes "symbol") then Some groups.Symbol
    else (if bytes_eq word (codes "currency") then Some groups.Currency else None)))

-- whether a word asks for the case level
unfoldable pub case_level_named : List ℕ → Option CaseLevel
case_level_named word =
    if bytes_eq word (codes "true") || bytes_eq word (codes "yes") then Some levels.On
    else (if bytes_eq word (codes "false") then Some levels.Off else None)

-- the case that a word puts first
unfoldable pub case_first_named : List ℕ → Option CollationCaseFirst
case_first_named word =
    if bytes_eq word (codes "upper") then Some cases.Upper
    else (if bytes_eq word (codes "lower") then Some cases.Lower
    else (if bytes_eq word (codes "false") then Some cases.False else None))

-- whether a word asks for digits as numbers
unfoldable pub numeric_named : List ℕ → Option CollationNumericOrdering
numeric_named word =
    if bytes_eq word (codes "true") || bytes_eq word (codes "yes") then Some numeric.True
    else (if bytes_eq word (codes "false") then Some numeric.False else None)

-- whether a word asks for a backward secondary level
unfoldable pub backward_named : List ℕ → Option Bool
backward_named word =
    if bytes_eq word (codes "true") || bytes_eq word (codes "yes") then Some true
    else (if bytes_eq word (codes "false") then Some false else None)

-- the settings are those that the keys name
pub record AreSettings (subtags : List Subtag) (s : TagSettings) : Type 0 where
  pub strength : setting_of strength_by_name (word_behind (codes "ks") subtags) ≡ Some s.options.strength
  pub alternate_handling : setting_of handling_named (word_behind (codes "ka") subtags) ≡ Some s.options.alternate_handling
  pub max_variable : setting_of group_named (word_behind (codes "kv") subtags) ≡ Some s.options.max_variable
  pub case_level : setting_of case_level_named (word_behind (codes "kc") subtags) ≡ Some s.options.case_level
  pub case_first : setting_of case_first_named (word_behind (codes "kf") subtags) ≡ Some s.case_first
  pub numeric : setting_of numeric_named (word_behind (codes "kn") subtags) ≡ Some s.numeric_ordering
  pub backward : setting_of backward_named (word_behind (codes "kb") subtags) ≡ Some s.backward_second_level

-- a key has a word that it doesn't know
abbrev pub IsUnknown : List Subtag → UnknownType → Type 0
IsUnknown subtags unknown.Strength = setting_of strength_by_name (word_behind (codes "ks") subtags) ≡ None
IsUnknown subtags unknown.AlternateHandling = setting_of handling_named (word_behind (codes "ka") subtags) ≡ None
IsUnknown subtags unknown.MaxVariable = setting_of group_named (word_behind (codes "kv") subtags) ≡ None
IsUnknown subtags unknown.CaseLevel = setting_of case_level_named (word_behind (codes "kc") subtags) ≡ None
IsUnknown subtags unknown.CaseFirst = setting_of case_first_named (word_behind (codes "kf") subtags) ≡ None
IsUnknown subtags unknown.Numeric = setting_of numeric_named (word_behind (codes "kn") subtags) ≡ None
IsUnknown subtags unknown.Backward = setting_of backward_named (word_behind (codes "kb") subtags) ≡ None

-- whether a subtag stands before the extensions
abbrev pub is_of_locale : SubtagKind → Bool
is_of_locale Language = true
is_of_locale Script = true
is_of_locale Region = true
is_of_locale Variant = true
is_of_locale _ = false

-- the subtags before the first extension
abbrev pub locale_of : List Subtag → List Subtag
locale_of subtags = before_first (λ s. not (is_of_locale s.kind)) subtags

-- subtags, each with a separator before it
abbrev pub followed : List ℕ → List Subtag → List ℕ
followed separator subtags = flat_map (λ (t : Subtag). separator ++ string_bytes t.text) subtags

-- subtags as a text, with a separator between
unfoldable pub joined : List ℕ → List Subtag → List ℕ
joined separator [] = []
joined separator (s ∷ subtags) = string_bytes s.text ++ followed separator subtags
