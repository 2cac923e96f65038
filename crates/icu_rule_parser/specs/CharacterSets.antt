-- Sets of characters, as parts write them, and what they have (UTS #35 part 1, "Unicode Sets").
use Rattle.std.specs.Prelude.{ℕ, Bool, true, false, not, ◌&&◌, ◌||◌, ◌==◌, ◌≤◌, nat_le, if◌then◌else◌, List, [], ◌∷◌, ◌++◌, Option, Some, None, IsTrue, ◌≡◌, ◌≢◌, ◌⊎◌}
use Rattle.std.specs.List.{list_any, list_all}
use Rattle.std.specs.Char.{IsScalar}
use Rattle.ucd_sets.specs.Lookup.{by_name, by_value}
use Rattle.ucd_sets.specs.Loose.{normalize}
use Rattle.ucd_sets.specs.Sets.{in_set}
use Rattle.ucd_sets.specs.declared.set.Set.{Set}
use Rattle.icu_rule_parser.specs.declared.statement.CharacterRange.{CharacterRange}
use Rattle.icu_rule_parser.specs.declared.set_parts.SetSign.{SetSign}
use Rattle.icu_rule_parser.specs.declared.set_parts.SetSign.TheVariants.{Opens, Closes, Complement, Intersection, Difference}
use Rattle.icu_rule_parser.specs.declared.set_parts.CharacterProperty.{CharacterProperty}
use Rattle.icu_rule_parser.specs.declared.set_parts.SetPart.{SetPart}
use Rattle.icu_rule_parser.specs.declared.set_parts.SetPart.TheVariants as parts
use Rattle.icu_rule_parser.specs.declared.open_sets.SetPlace.{SetPlace}
use Rattle.icu_rule_parser.specs.declared.open_sets.SetPlace.TheVariants as places
use Rattle.icu_rule_parser.specs.RuleCharacters.{is_white, IsWhite}
use Rattle.icu_rule_parser.specs.RuleStrings.{SpellsEscape}

-- ---- what a set has

-- the range has the character
abbrev pub is_in_range : CharacterRange → ℕ → Bool
is_in_range range c = nat_le range.first c && nat_le c range.last

-- one of the ranges has the character
abbrev pub have_character : List CharacterRange → ℕ → Bool
have_character ranges c = list_any (λ (range : CharacterRange). nat_le range.first c && nat_le c range.last) ranges

-- the other truth, if that is wanted
abbrev pub turned : Bool → Bool → Bool
turned true b = not b
turned false b = b

-- the characters with a property, or without it, have the character
abbrev pub is_in_property : CharacterProperty → ℕ → Bool
is_in_property property c = turned property.is_complement (in_set property.set c)

-- what is read of a set that isn't closed, if one character is asked for: whether it is a complement, what was read
-- last, and whether the ranges and sets so far have the character
pub record SetReading : Type 0 where
  pub is_complement : Bool
  pub place : SetPlace
  pub has : Bool

-- a set of which nothing is read
abbrev pub begun : SetReading
begun = record { is_complement = false; place = places.Beginning; has = false }

-- how a set changes what the set round it has so far: operators bind alike, from the left
abbrev pub has_with_set : SetPlace → Bool → Bool → Bool
has_with_set places.Beginning a b = a || b
has_with_set places.BehindRange a b = a || b
has_with_set places.BehindSet a b = a || b
has_with_set places.BehindIntersection a b = a && b
has_with_set places.BehindDifference a b = a && not b

-- with a set behind
abbrev pub with_set : SetReading → Bool → SetReading
with_set now b = record {
  is_complement = now.is_complement;
  place = places.BehindSet;
  has = has_with_set now.place now.has b;
}

-- behind an operator stands a set
abbrev pub lacks_set : SetPlace → Bool
lacks_set places.Beginning = false
lacks_set places.BehindRange = false
lacks_set places.BehindSet = false
lacks_set places.BehindIntersection = true
lacks_set places.BehindDifference = true

-- what a closed set has
abbrev pub closed_has : SetReading → Bool
closed_has now = turned now.is_complement now.has

-- what a part of a set leads to
pub data SetStep : Type 0 where
  -- sets are open, the innermost first
  goes_on : List SetReading → SetStep
  -- the outermost set is closed, and has the character if that is true
  is_over : Bool → SetStep
  -- the part may not stand there
  fails : SetStep

-- what a closed set does to the set round it, if there is one
abbrev pub close_step : Bool → List SetReading → SetStep
close_step has [] = is_over has
close_step has (now ∷ outer) = goes_on (with_set now has ∷ outer)

-- `^` stands at the beginning
abbrev pub complement_step : SetPlace → SetReading → List SetReading → SetStep
complement_step places.Beginning now outer =
    goes_on (record { is_complement = true; place = places.BehindRange; has = now.has } ∷ outer)
complement_step place now outer = fails

-- an operator stands behind a set
abbrev pub operator_step : SetPlace → SetPlace → SetReading → List SetReading → SetStep
operator_step next places.BehindSet now outer =
    goes_on (record { is_complement = now.is_complement; place = next; has = now.has } ∷ outer)
operator_step next place now outer = fails

-- what a sign leads to
abbrev pub sign_step : SetSign → SetReading → List SetReading → SetStep
sign_step Opens now outer = goes_on (begun ∷ now ∷ outer)
sign_step Closes now outer = if lacks_set now.place then fails else close_step (closed_has now) outer
sign_step Complement now outer = complement_step now.place now outer
sign_step Intersection now outer = operator_step places.BehindIntersection now.place now outer
sign_step Difference now outer = operator_step places.BehindDifference now.place now outer

-- what a part leads to, if these sets are open
abbrev pub set_step : ℕ → List SetReading → SetPart → SetStep
set_step c [] (parts.Sign Opens) = goes_on (begun ∷ [])
set_step c [] (parts.Property property) = is_over (is_in_property property c)
set_step c [] part = fails
set_step c (now ∷ outer) (parts.Sign sign) = sign_step sign now outer
set_step c (now ∷ outer) (parts.Range range) =
    if lacks_set now.place then fails else goes_on (record {
      is_complement = now.is_complement;
      place = places.BehindRange;
      has = now.has || is_in_range range c;
    } ∷ outer)
set_step c (now ∷ outer) (parts.Property property) = goes_on (with_set now (is_in_property property c) ∷ outer)

-- the truth, if no part follows
abbrev pub if_last : Bool → List SetPart → Option Bool
if_last has [] = Some has
if_last has (part ∷ more) = None

-- whether a set has a character, by the sets that are open, the innermost first, and the parts that follow. There is
-- no truth if a part may not stand where it stands, or if the last one doesn't close the outermost set.
abbrev pub parts_have : ℕ → List SetReading → List SetPart → Option Bool
parts_have c open' [] = None
parts_have c open' (part ∷ more) = elim (set_step c open' part) [
  | goes_on next ↦ parts_have c next more
  | is_over has ↦ if_last has more
  | fails ↦ None
]

-- the parts are those of a set: each may stand where it stands, and the last one closes it
abbrev pub IsSet : List SetPart → Type 0
IsSet stated = (has : Bool) × (parts_have 0 [] stated ≡ Some has)

-- the ranges have the characters of the set that the parts write
abbrev pub IsSetOf : List SetPart → List CharacterRange → Type 0
IsSetOf stated ranges = (c : ℕ) → IsScalar c → parts_have c [] stated ≡ Some (have_character ranges c)

-- ---- how parts are spelled

-- the sign
abbrev pub sign_code : SetSign → ℕ
sign_code Opens = 91
sign_code Closes = 93
sign_code Complement = 94
sign_code Intersection = 38
sign_code Difference = 45

-- what stands for itself in a set: all but white space and `$ & - : [ \ ] ^ { }`
unfoldable pub is_member : ℕ → Bool
is_member c = not (is_white c)
    && not (c == 36 || c == 38 || c == 45 || c == 58 || (nat_le 91 c && nat_le c 94) || c == 123 || c == 125)

-- what stands behind a backslash begins otherwise than a property
abbrev pub IsNoProperty : List ℕ → Type 0
IsNoProperty [] = ⊥
IsNoProperty (c ∷ text) = (c ≢ 112) × (c ≢ 80)

-- a character in a set: as itself, or by an escape
abbrev pub SpellsCharacter : ℕ → List ℕ → Type 0
SpellsCharacter c text = (IsTrue (is_member c) × (text ≡ c ∷ []))
    ⊎ ((escape : List ℕ) × SpellsEscape c escape × IsNoProperty escape × (text ≡ 92 ∷ escape))

-- a range of a set: two characters with a dash between, or one
abbrev pub SpellsRange : CharacterRange → List ℕ → Type 0
SpellsRange range text = ((range.first ≡ range.last) × SpellsCharacter range.first text)
    ⊎ ((first before after last : List ℕ) × SpellsCharacter range.first first × IsWhite before × IsWhite after
    × SpellsCharacter range.last last × (range.first ≤ range.last)
    × (text ≡ first ++ before ++ 45 ∷ after ++ last))

-- the text has no such character
abbrev pub HasNo : ℕ → List ℕ → Type 0
HasNo sign text = IsTrue (list_all (λ c. not (c == sign)) text)

-- the text doesn't begin with this character
abbrev pub BeginsNotWith : ℕ → List ℕ → Type 0
BeginsNotWith k [] = Unit {0}
BeginsNotWith k (c ∷ text) = c ≢ k

-- a property of Unicode, by its name, or by its name and a value of it
abbrev pub NamesSet : Set → List ℕ → Type 0
NamesSet set body = (HasNo 61 body × (by_name (normalize body) ≡ Some set))
    ⊎ ((name value : List ℕ) × HasNo 61 name × (body ≡ name ++ 61 ∷ value)
    × (by_value (normalize name) (normalize value) ≡ Some set))

-- such a property, or behind `^` what lacks it
abbrev pub NamesProperty : CharacterProperty → List ℕ → Type 0
NamesProperty property body = ((property.is_complement ≡ false) × BeginsNotWith 94 body × NamesSet property.set body)
    ⊎ ((named : List ℕ) × (property.is_complement ≡ true) × (body ≡ 94 ∷ named) × NamesSet property.set named)

-- what lacks a property
abbrev pub other_property : CharacterProperty → CharacterProperty
other_property property = record { set = property.set; is_complement = not property.is_complement }

-- a property: `[:name:]`, `\\p{name}`, or `\\P{name}` for what lacks it
abbrev pub SpellsProperty : CharacterProperty → List ℕ → Type 0
SpellsProperty property text = (body : List ℕ)
    × ((HasNo 58 body × NamesProperty property body × (text ≡ 91 ∷ 58 ∷ body ++ 58 ∷ 93 ∷ []))
    ⊎ ((HasNo 125 body × NamesProperty property body × (text ≡ 92 ∷ 112 ∷ 123 ∷ body ++ 125 ∷ []))
    ⊎ (HasNo 125 body × NamesProperty (other_property property) body × (text ≡ 92 ∷ 80 ∷ 123 ∷ body ++ 125 ∷ []))))

-- the text of a part
abbrev pub SpellsPart : SetPart → List ℕ → Type 0
SpellsPart (parts.Sign sign) text = text ≡ sign_code sign ∷ []
SpellsPart (parts.Range range) text = SpellsRange range text
SpellsPart (parts.Property property) text = SpellsProperty property text

-- the parts one after another, with white space behind each
abbrev pub SpellsParts : List SetPart → List ℕ → Type 0
SpellsParts [] text = text ≡ []
SpellsParts (part ∷ more) text = (mine white rest : List ℕ) × SpellsPart part mine × IsWhite white
    × SpellsParts more rest × (text ≡ mine ++ white ++ rest)
