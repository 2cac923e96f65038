-- What a part of the reading took from a text: what it left is what follows the part.
use Rattle.std.specs.Prelude.{ℕ, Bool, not, ◌≤◌, List, [], ◌∷◌, ◌++◌, length, map, reverse, IsTrue, ◌≡◌, ◌⊎◌}
use Rattle.std.specs.List.{list_all}
use Rattle.std.specs.Char.{IsScalar}
use Rattle.icu_rule_parser.specs.RuleCharacters.{is_line_end, is_word_character, IsWhite}
use Rattle.icu_rule_parser.specs.RuleStrings.{WritesInHex, IsNoQuote, SpellsEscape, SpellsCharacters}
use Rattle.icu_rule_parser.specs.CharacterSets.{SetReading, HasNo, have_character, set_step, goes_on, is_over, parts_have, IsSetOf, SpellsCharacter, SpellsRange, SpellsProperty, SpellsPart, SpellsParts}
use Rattle.icu_rule_parser.specs.declared.set_parts.SetPart.{SetPart}
use Rattle.icu_rule_parser.specs.declared.set_parts.CharacterProperty.{CharacterProperty}
use Rattle.icu_rule_parser.specs.declared.open_sets.OpenSet.{OpenSet}
use Rattle.icu_rule_parser.specs.declared.open_sets.TakenPart.{TakenPart}
use Rattle.icu_rule_parser.specs.declared.open_sets.TakenPart.TheVariants as taken_parts
use Rattle.icu_rule_parser.specs.declared.brackets.Bracket.{Bracket}
use Rattle.icu_rule_parser.specs.declared.brackets.Bracket.TheVariants as brackets
use Rattle.icu_rule_parser.specs.declared.statement.CharacterRange.{CharacterRange}
use Rattle.icu_rule_parser.specs.Tokens.{Token, bracket, set_bracket, SpellsTokens, SpellsWords}

-- the text is white space and the rest
abbrev pub SkipsWhite : List ℕ → List ℕ → Type 0
SkipsWhite text rest = (white : List ℕ) × IsWhite white × (text ≡ white ++ rest)

-- the text is a line with its end, and the rest; or it ends with that line
abbrev pub SkipsLine : List ℕ → List ℕ → Type 0
SkipsLine text rest =
    ((line : List ℕ) × (end : ℕ) × IsTrue (list_all (λ c. not (is_line_end c)) line) × IsTrue (is_line_end end)
    × (text ≡ line ++ end ∷ rest))
    ⊎ (IsTrue (list_all (λ c. not (is_line_end c)) text) × (rest ≡ []))

-- The text goes on with the tokens and then with the rest: whatever tokens a beginning of the rest spells follow them,
-- and what stands behind it is left.
abbrev pub Takes : List ℕ → List Token → List ℕ → Type 0
Takes text tokens rest = (more : List Token) (tail after : List ℕ) → rest ≡ tail ++ after → SpellsTokens more tail
    → (whole : List ℕ) × SpellsTokens (tokens ++ more) whole × (text ≡ whole ++ after)

-- the text is so many digits, which write the character, and the rest
abbrev pub TakesDigits : List ℕ → ℕ → ℕ → List ℕ → Type 0
TakesDigits text count c rest = (digits : List ℕ) × (length digits ≡ count) × WritesInHex c digits
    × (text ≡ digits ++ rest)

-- the text is digits, which write the character, a closing brace, and the rest
abbrev pub TakesBraced : List ℕ → ℕ → List ℕ → Type 0
TakesBraced text c rest = (digits : List ℕ) × (1 ≤ length digits) × (length digits ≤ 8) × WritesInHex c digits
    × (text ≡ digits ++ 125 ∷ rest)

-- the text is two digits, or digits in braces, which write the character, and the rest
abbrev pub TakesShort : List ℕ → ℕ → List ℕ → Type 0
TakesShort text c rest = TakesDigits text 2 c rest
    ⊎ ((braced : List ℕ) × (text ≡ 123 ∷ braced) × TakesBraced braced c rest)

-- the text is what stands behind the backslash of an escape, and the rest
abbrev pub TakesEscape : List ℕ → ℕ → List ℕ → Type 0
TakesEscape text c rest = (escape : List ℕ) × SpellsEscape c escape × (text ≡ escape ++ rest)

-- The text goes on with characters of a string, and then with the rest, within quotes or not, as before and as after
-- say. Whatever characters follow there, with no apostrophe first if the rest has none, the part spells with them.
abbrev pub TakesCharacters : Bool → List ℕ → List ℕ → Bool → List ℕ → Type 0
TakesCharacters before text cs behind rest = (part : List ℕ) × (text ≡ part ++ rest)
    × ((more tail : List ℕ) → (IsNoQuote rest → IsNoQuote tail) → SpellsCharacters behind more tail
    → SpellsCharacters before (cs ++ more) (part ++ tail))

-- the text is characters of words, and the rest
abbrev pub SkipsWord : List ℕ → List ℕ → Type 0
SkipsWord text rest = (word : List ℕ) × IsTrue (list_all is_word_character word) × (text ≡ word ++ rest)

-- the text goes on with the words of a bracket, and then with the rest: whatever words the rest goes on with follow
-- them
abbrev pub TakesWords : List ℕ → List (List ℕ) → List ℕ → Type 0
TakesWords text words rest = (more : List (List ℕ)) (inside after : List ℕ) → rest ≡ inside ++ after
    → SpellsWords more inside → (whole : List ℕ) × SpellsWords (words ++ more) whole × (text ≡ whole ++ after)

-- the text is a character of a set, and the rest
abbrev pub TakesMember : List ℕ → ℕ → List ℕ → Type 0
TakesMember text c rest = (mine : List ℕ) × SpellsCharacter c mine × (text ≡ mine ++ rest)

-- the text is a range of a set, and the rest
abbrev pub TakesRange : List ℕ → CharacterRange → List ℕ → Type 0
TakesRange text range rest = (mine : List ℕ) × SpellsRange range mine × (text ≡ mine ++ rest)

-- the text is a set's parts, white space and the rest, and the ranges have the characters of the set
abbrev pub TakesSet : List ℕ → List CharacterRange → List ℕ → Type 0
TakesSet text ranges rest = (stated : List SetPart) × (inside : List ℕ) × IsSetOf stated ranges
    × SpellsParts stated inside × (text ≡ inside ++ rest)

-- the text is a part of a set, and the rest
abbrev pub TakesPart : List ℕ → SetPart → List ℕ → Type 0
TakesPart text part rest = (mine : List ℕ) × SpellsPart part mine × (text ≡ mine ++ rest)

-- the text is characters other than this one, and the rest
abbrev pub SkipsOthers : ℕ → List ℕ → List ℕ → Type 0
SkipsOthers sign text rest = (before : List ℕ) × HasNo sign before × (text ≡ before ++ rest)

-- nothing, or this character and the rest
abbrev pub EndsAtSign : ℕ → List ℕ → Type 0
EndsAtSign sign [] = Unit {0}
EndsAtSign sign (c ∷ text) = c ≡ sign

-- the text is characters other than this one, this one, and the rest
abbrev pub TakesBody : ℕ → List ℕ → List ℕ → List ℕ → Type 0
TakesBody sign text body rest = HasNo sign body × (text ≡ body ++ sign ∷ rest)

-- the text is a property, and the rest
abbrev pub TakesProperty : List ℕ → CharacterProperty → List ℕ → Type 0
TakesProperty text property rest = (mine : List ℕ) × SpellsProperty property mine × (text ≡ mine ++ rest)

-- what is read of an open set, if a character is asked for
abbrev pub open_reading : ℕ → OpenSet → SetReading
open_reading c set = record {
  is_complement = set.is_complement;
  place = set.place;
  has = have_character set.ranges.items c;
}

-- what is read of open sets, the innermost first
abbrev pub readings_of : ℕ → List OpenSet → List SetReading
readings_of c sets = reverse (map (open_reading c) sets)

-- what a part of a set led to
abbrev pub LeadsTo : SetPart → List OpenSet → List OpenSet → TakenPart → Type 0
LeadsTo part old new taken_parts.GoesOn =
    (c : ℕ) → IsScalar c → set_step c (readings_of c old) part ≡ goes_on (readings_of c new)
LeadsTo part old new (taken_parts.Ends ranges) =
    (c : ℕ) → IsScalar c → set_step c (readings_of c old) part ≡ is_over (have_character ranges.items c)
LeadsTo part old new taken_parts.Fails = Unit {0}

-- The text goes on with parts of a set, which lead to these open sets, and then with the rest: whatever parts the rest
-- goes on with follow them.
abbrev pub TakesParts : List ℕ → List OpenSet → List ℕ → Type 0
TakesParts text sets rest = (more : List SetPart) (inside after : List ℕ) → rest ≡ inside ++ after
    → SpellsParts more inside → (all : List SetPart) × (whole : List ℕ) × SpellsParts all whole
    × (text ≡ whole ++ after) × ((c : ℕ) → IsScalar c → parts_have c [] all ≡ parts_have c (readings_of c sets) more)

-- what stands in a bracket has this token
abbrev pub IsBracketToken : Bracket → Token → Type 0
IsBracketToken (brackets.Words words) token = token ≡ bracket (map (λ word. word.now) words.items)
IsBracketToken (brackets.Set word ranges) token =
    (stated : List SetPart) × IsSetOf stated ranges.items × (token ≡ set_bracket word.now stated)

-- the text goes on with a bracket, and with the rest
abbrev pub TakesBracket : List ℕ → Bracket → List ℕ → Type 0
TakesBracket text inside rest = (token : Token) × IsBracketToken inside token × Takes text (token ∷ []) rest
