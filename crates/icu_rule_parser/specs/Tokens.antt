-- The signs, strings and brackets that rules are written in, and how each is spelled (UTS #35 part 5, "Collation
-- Tailorings").
use Rattle.std.specs.Prelude.{ℕ, Bool, true, false, not, ◌+◌, ◌==◌, if◌then◌else◌, List, [], ◌∷◌, ◌++◌, IsTrue, ◌≡◌, ◌≢◌, ◌⊎◌, codes}
use Rattle.std.specs.List.{list_all}
use Rattle.icu_options.specs.declared.settings.Strength.{Strength}
use Rattle.icu_options.specs.declared.settings.Strength.TheVariants.{Primary, Secondary, Tertiary, Quaternary, Identical}
use Rattle.icu_rule_parser.specs.declared.set_parts.SetPart.{SetPart}
use Rattle.icu_rule_parser.specs.RuleCharacters.{is_word_character, is_reserved, IsWhite, IsBlank, IsTrail}
use Rattle.icu_rule_parser.specs.RuleStrings.{SpellsCharacters}
use Rattle.icu_rule_parser.specs.CharacterSets.{IsSet, SpellsParts}

-- what rules are written in
pub data Token : Type 0 where
  -- `&`
  reset_sign : Token
  -- `<` and the like, with a star if that is true
  relation_sign : Strength → Bool → Token
  -- `|`
  prefix_sign : Token
  -- `/`
  extension_sign : Token
  -- `-` of a starred relation
  range_sign : Token
  -- `!`
  vowel_sign : Token
  -- characters
  string : List ℕ → Token
  -- words in brackets
  bracket : List (List ℕ) → Token
  -- a word and a set in brackets
  set_bracket : List ℕ → List SetPart → Token

-- the sign of a strength (UTS #35 part 5, "Collation Tailorings")
abbrev pub relation_sign_text : Strength → List ℕ
relation_sign_text Primary = codes "<"
relation_sign_text Secondary = codes "<<"
relation_sign_text Tertiary = codes "<<<"
relation_sign_text Quaternary = codes "<<<<"
relation_sign_text Identical = codes "="

-- the sign that older rules have for a strength
abbrev pub IsOldSign : Strength → List ℕ → Type 0
IsOldSign Primary text = ⊥
IsOldSign Secondary text = text ≡ codes ";"
IsOldSign Tertiary text = text ≡ codes ","
IsOldSign Quaternary text = ⊥
IsOldSign Identical text = ⊥

-- the sign of a relation
abbrev pub IsRelationSign : Strength → Bool → List ℕ → Type 0
IsRelationSign strength false text = (text ≡ relation_sign_text strength) ⊎ IsOldSign strength text
IsRelationSign strength true text = text ≡ relation_sign_text strength ++ codes "*"

-- how many `<` a text begins with
abbrev pub angles_before : List ℕ → ℕ
angles_before [] = 0
angles_before (c ∷ text) = if c == 60 then angles_before text + 1 else 0

-- the strength of so many `<`; of none, that of `=`
abbrev pub level_of_angles : ℕ → Strength
level_of_angles n =
    if n == 0 then Identical else if n == 1 then Primary else if n == 2 then Secondary else if n == 3 then Tertiary
    else Quaternary

-- the strength of the longest sign of a relation that a text begins with
abbrev pub strength_at : List ℕ → Strength
strength_at [] = Identical
strength_at (c ∷ text) =
    if c == 59 then Secondary else if c == 44 then Tertiary else level_of_angles (angles_before (c ∷ text))

-- text that doesn't go on with the word before it
abbrev pub IsNoWord : List ℕ → Type 0
IsNoWord [] = Unit {0}
IsNoWord (c ∷ text) = is_word_character c ≡ false

-- the characters of a word in brackets
abbrev pub IsBracketWord : List ℕ → Type 0
IsBracketWord word = (word ≢ []) × IsTrue (list_all is_word_character word)

-- words with white space round them
abbrev pub SpellsWords : List (List ℕ) → List ℕ → Type 0
SpellsWords [] text = IsWhite text
SpellsWords (word ∷ words) text = (white rest : List ℕ) × IsWhite white × IsBracketWord word × IsNoWord rest
    × SpellsWords words rest × (text ≡ white ++ word ++ rest)

-- the text of a token. `@` is an older form of `[backwards 2]`
abbrev pub SpellsToken : Token → List ℕ → Type 0
SpellsToken reset_sign text = text ≡ codes "&"
SpellsToken (relation_sign strength starred) text = IsRelationSign strength starred text
SpellsToken prefix_sign text = text ≡ codes "|"
SpellsToken extension_sign text = text ≡ codes "/"
SpellsToken range_sign text = text ≡ codes "-"
SpellsToken vowel_sign text = text ≡ codes "!"
SpellsToken (string cs) text = (cs ≢ []) × SpellsCharacters false cs text × IsTrue (list_all (λ c. not (is_reserved c)) cs)
SpellsToken (bracket words) text =
    ((inside : List ℕ) × SpellsWords words inside × (text ≡ 91 ∷ inside ++ 93 ∷ []))
    ⊎ ((text ≡ codes "@") × (words ≡ codes "backwards" ∷ codes "2" ∷ []))
SpellsToken (set_bracket word stated) text = (named inside : List ℕ) × SpellsWords (word ∷ []) named × IsSet stated
    × SpellsParts stated inside × (text ≡ 91 ∷ named ++ inside ++ 93 ∷ [])

-- the tokens one after another with blanks before each, and blanks behind the last
abbrev pub SpellsTokens : List Token → List ℕ → Type 0
SpellsTokens [] text = IsTrail text
SpellsTokens (token ∷ tokens) text = (blank mine rest : List ℕ) × IsBlank blank × SpellsToken token mine
    × SpellsTokens tokens rest × (text ≡ blank ++ mine ++ rest)
