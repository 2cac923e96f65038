-- Errors of the reading of a part, before their place is known.
use Rattle.std.specs.Prelude.{ℕ, Bool, false, ◌-◌, ◌++◌, ◌≡◌, ◌≢◌, ◌⊎◌, List, [], ◌∷◌, length, None}
use Rattle.std.specs.List.{AllByRecursion}
use Rattle.icu_rule_parser.specs.declared.unplaced_error.UnplacedError.{UnplacedError}
use Rattle.icu_rule_parser.specs.declared.unplaced_error.UnplacedError.TheVariants.{NoMemory, Refused}
use Rattle.icu_rule_parser.specs.declared.chain.Chain.{Chain}
use Rattle.icu_rule_parser.specs.declared.rules_error.RulesError.{RulesError}
use Rattle.icu_rule_parser.specs.declared.rules_error.RulesError.TheVariants as errors
use Rattle.icu_rule_parser.specs.declared.rules_error.RulesErrorKind.TheVariants as kinds
use Rattle.icu_rule_parser.specs.Tokens.{Token, SpellsWords}
use Rattle.icu_rule_parser.specs.Statements.{IsComplete}
use Rattle.icu_rule_parser.specs.RulePlaces.{FaultSort, misplaced, lacks_relation, of_part, sort_of, IsInner, BeginOne, BeginsToken, BeginsStatement, BeginsNoSign, IsAtFault}
use Rattle.icu_rule_parser.specs.TakenText.{Takes, TakesCharacters}

-- a part is at fault that the text begins with
abbrev pub IsHere : UnplacedError → List ℕ → Type 0
IsHere NoMemory text = Unit {0}
IsHere (Refused left kind) text = (left ≡ length text) × (sort_of kind ≡ of_part)

-- what is left of a text where a string of it is at fault, and its fault
pub record InString (left : ℕ) (text : List ℕ) : Type 0 where
  pub cs : List ℕ
  pub within : Bool
  pub rest : List ℕ
  pub taken : TakesCharacters false text cs within rest
  pub placed : left ≡ length rest

-- the string that the text begins with is at fault
abbrev pub IsInString : UnplacedError → List ℕ → Type 0
IsInString NoMemory text = Unit {0}
IsInString (Refused left kind) text = InString left text × (sort_of kind ≡ of_part)

-- what is left of a text where a part of the bracket that it begins with is at fault, behind words
pub record InBracket (left : ℕ) (text : List ℕ) : Type 0 where
  pub words : List (List ℕ)
  pub inside : List ℕ
  pub spelled : SpellsWords words inside
  pub rest : List ℕ
  pub whole : text ≡ 91 ∷ inside ++ rest
  pub placed : left ≡ length rest

-- such a part is at fault
abbrev pub IsBehindWords : UnplacedError → List ℕ → Type 0
IsBehindWords NoMemory text = Unit {0}
IsBehindWords (Refused left kind) text = InBracket left text × (sort_of kind ≡ of_part)

-- the bracket that the text begins with is at fault
abbrev pub IsInBracket : UnplacedError → List ℕ → Type 0
IsInBracket e text = IsHere e text ⊎ IsBehindWords e text

-- So many characters are left of a text behind tokens that may stand there, and perhaps behind the beginning of a
-- string or a bracket.
pub record IsLeftBehind (may : List Token → Type 0) (left : ℕ) (text : List ℕ) : Type 0 where
  pub tokens : List Token
  pub allowed : may tokens
  pub start : List ℕ
  pub taken : Takes text tokens start
  pub part : List ℕ
  pub begins : BeginsToken part
  pub rest : List ℕ
  pub whole : start ≡ part ++ rest
  pub placed : left ≡ length rest

-- a part of a statement is at fault, and tokens that may stand there are before it
abbrev pub IsPart : (List Token → Type 0) → UnplacedError → List ℕ → Type 0
IsPart may NoMemory text = Unit {0}
IsPart may (Refused left kind) text = IsLeftBehind may left text × (sort_of kind ≡ of_part)

-- no tokens
abbrev pub AreNoTokens : List Token → Type 0
AreNoTokens tokens = tokens ≡ []

-- tokens that begin no statement
abbrev pub AreInner : List Token → Type 0
AreInner tokens = AllByRecursion IsInner tokens

-- a part of a relation is at fault, or its whole, which begins with its sign
abbrev pub IsSigned : UnplacedError → List ℕ → List ℕ → Type 0
IsSigned e sign text = IsPart AreInner e text ⊎ IsHere e sign

-- text that begins with no sign of a statement that is no relation
abbrev pub BeginsNoOther : List ℕ → Type 0
BeginsNoOther [] = Unit {0}
BeginsNoOther (c ∷ text) = (c ≢ 38) × (c ≢ 91) × (c ≢ 64) × (c ≢ 33)

-- a part of a statement that is no relation is at fault, or the text begins with none, which is the fault
abbrev pub IsOtherFault : UnplacedError → List ℕ → Type 0
IsOtherFault e text = IsPart BeginOne e text ⊎ (BeginsNoOther text × (e ≡ Refused (length text) kinds.Statement))

-- what is wrong in a text behind a chain, whose last statement begins where so many characters are left
abbrev pub IsLeft : FaultSort → Chain → ℕ → List ℕ → ℕ → Type 0
IsLeft misplaced chain before text left = (left ≡ length text) × (BeginsStatement chain text → ⊥)
IsLeft lacks_relation chain before text left = (left ≡ before) × (IsComplete chain → ⊥) × BeginsNoSign text
IsLeft of_part chain before text left = IsLeftBehind BeginOne left text

-- so is the fault of an error
abbrev pub IsFaultHere : UnplacedError → Chain → ℕ → List ℕ → Type 0
IsFaultHere NoMemory chain before text = Unit {0}
IsFaultHere (Refused left kind) chain before text = IsLeft (sort_of kind) chain before text left

-- the fault is where so many characters of the text are left
abbrev pub IsFaultIn : UnplacedError → List ℕ → Type 0
IsFaultIn NoMemory text = Unit {0}
IsFaultIn (Refused left kind) text = IsAtFault kind (length text - left) text

-- the error in rules of so many characters
abbrev pub in_text : UnplacedError → ℕ → RulesError
in_text NoMemory count = errors.NoMemory
in_text (Refused left kind) count = errors.Refused (count - left) None kind
