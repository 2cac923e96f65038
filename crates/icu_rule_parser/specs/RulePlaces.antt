-- Where rules are at fault, and what is wrong there.
use Rattle.std.specs.Prelude.{ℕ, false, ◌+◌, ◌≤◌, ◌≡◌, ◌≢◌, ◌⊎◌, List, [], ◌∷◌, ◌++◌, length, None, codes}
use Rattle.std.specs.List.{AllByRecursion}
use Rattle.icu_rule_parser.specs.declared.rules_error.RulesError.{RulesError}
use Rattle.icu_rule_parser.specs.declared.rules_error.RulesError.TheVariants.{NoMemory, Refused}
use Rattle.icu_rule_parser.specs.declared.rules_error.RulesErrorKind.{RulesErrorKind}
use Rattle.icu_rule_parser.specs.declared.rules_error.RulesErrorKind.TheVariants as kinds
use Rattle.icu_rule_parser.specs.declared.chain.Chain.{Chain}
use Rattle.icu_rule_parser.specs.declared.chain.Chain.TheVariants as chains
use Rattle.icu_rule_parser.specs.declared.statement.Statement.{Statement}
use Rattle.icu_rule_parser.specs.RuleCharacters.{BeginsNoBlank}
use Rattle.icu_rule_parser.specs.RuleStrings.{SpellsCharacters}
use Rattle.icu_rule_parser.specs.Tokens.{Token, reset_sign, relation_sign, prefix_sign, extension_sign, range_sign, string, bracket, SpellsWords, SpellsTokens}
use Rattle.icu_rule_parser.specs.Statements.{AreStatement, AreStatements, MayFollow, IsComplete, chain_after}

-- what is wrong, by where its place is
pub data FaultSort : Type 0 where
  -- no statement that may stand here begins here
  misplaced : FaultSort
  -- the reset before has no relation
  lacks_relation : FaultSort
  -- a part of a statement can't be read, or says what it may not
  of_part : FaultSort

-- what is wrong for this reason
abbrev pub sort_of : RulesErrorKind → FaultSort
sort_of kinds.Statement = misplaced
sort_of kinds.OtherStrengthThanBefore = misplaced
sort_of kinds.StrongerThanBefore = misplaced
sort_of kinds.ResetWithoutRelation = lacks_relation
sort_of kind = of_part

-- the fault is at one of so many characters, or behind them, and no import led there
abbrev pub IsPlaced : RulesError → ℕ → Type 0
IsPlaced NoMemory count = Unit {0}
IsPlaced (Refused place led kind) count = (place ≤ count) × (led ≡ None)

-- the statements may stand here, in this order; the last one may be a reset that has no relation yet
abbrev pub AreInLine : Chain → List Statement → Type 0
AreInLine chain [] = Unit {0}
AreInLine chain (statement ∷ more) = MayFollow chain statement × AreInLine (chain_after chain statement) more

-- what stands behind statements
abbrev pub chain_behind : Chain → List Statement → Chain
chain_behind chain [] = chain
chain_behind chain (statement ∷ more) = chain_behind (chain_after chain statement) more

-- The beginning of a text and the statements say the same: it spells their tokens, and they may stand so, one behind
-- another.
pub record AreRead (stated : List Statement) (front : List ℕ) : Type 0 where
  pub tokens : List Token
  pub spelled : SpellsTokens tokens front
  pub each : AreStatements stated tokens
  pub in_line : AreInLine chains.Outside stated

-- a statement that may stand behind the chain is spelled by a beginning of the text
pub record BeginsStatement (chain : Chain) (text : List ℕ) : Type 0 where
  pub statement : Statement
  pub may : MayFollow chain statement
  pub tokens : List Token
  pub are : AreStatement statement tokens
  pub mine : List ℕ
  pub spelled : SpellsTokens tokens mine
  pub after : List ℕ
  pub whole : text ≡ mine ++ after

-- text that begins with no sign of a relation
abbrev pub BeginsNoSign : List ℕ → Type 0
BeginsNoSign [] = Unit {0}
BeginsNoSign (c ∷ text) = (c ≢ 60) × (c ≢ 61) × (c ≢ 59) × (c ≢ 44)

-- The last statement is a reset that no relation follows, and begins behind so many characters.
pub record LacksRelation (place : ℕ) (stated : List Statement) (text rest : List ℕ) : Type 0 where
  pub incomplete : IsComplete (chain_behind chains.Outside stated) → ⊥
  pub no_sign : BeginsNoSign rest
  pub earlier : List Statement
  pub last : Statement
  pub split : stated ≡ earlier ++ last ∷ []
  pub front : List ℕ
  pub read : AreRead earlier front
  pub placed : place ≡ length front
  pub behind : List ℕ
  pub whole : text ≡ front ++ behind
  pub visible : BeginsNoBlank behind

-- a token that begins no statement
abbrev pub IsInner : Token → Type 0
IsInner prefix_sign = Unit {0}
IsInner extension_sign = Unit {0}
IsInner range_sign = Unit {0}
IsInner (string cs) = Unit {0}
IsInner token = ⊥

-- nothing, or [before n]
abbrev pub IsBeforeLevel : List Token → Type 0
IsBeforeLevel tokens = (tokens ≡ []) ⊎ ((word : List ℕ) × (tokens ≡ bracket (codes "before" ∷ word ∷ []) ∷ []))

-- What may stand in one statement before its fault: nothing; the sign of a relation and what begins no statement; or
-- `&` and what may stand between that and the string or the position.
abbrev pub BeginOne : List Token → Type 0
BeginOne [] = Unit {0}
BeginOne (relation_sign strength starred ∷ more) = AllByRecursion IsInner more
BeginOne (reset_sign ∷ more) = IsBeforeLevel more
BeginOne (token ∷ more) = ⊥

-- the beginning of a string, or of a bracket, with its first words; that of a string may be nothing
abbrev pub BeginsToken : List ℕ → Type 0
BeginsToken part = ((cs rest : List ℕ) × SpellsCharacters false cs (part ++ rest))
    ⊎ ((words : List (List ℕ)) × (inside : List ℕ) × SpellsWords words inside × (part ≡ 91 ∷ inside))

-- So many characters of a text are of one statement: they are tokens that may stand before its fault, and perhaps the
-- beginning of a string or a bracket.
pub record IsWithinStatement (count : ℕ) (text : List ℕ) : Type 0 where
  pub tokens : List Token
  pub begin : BeginOne tokens
  pub mine : List ℕ
  pub spelled : SpellsTokens tokens mine
  pub part : List ℕ
  pub begins : BeginsToken part
  pub rest : List ℕ
  pub whole : text ≡ mine ++ part ++ rest
  pub placed : count ≡ length mine + length part

-- What is wrong at a place of a text, which begins with statements that are read and with the rest. Nothing that may
-- stand there begins there, or the last statement lacks its relation, or the fault is within the statement that begins
-- there.
abbrev pub IsFault : FaultSort → ℕ → List Statement → List ℕ → List ℕ → List ℕ → Type 0
IsFault misplaced place stated text front rest =
    (place ≡ length front) × (BeginsStatement (chain_behind chains.Outside stated) rest → ⊥)
IsFault lacks_relation place stated text front rest = LacksRelation place stated text rest
IsFault of_part place stated text front rest =
    (count : ℕ) × (place ≡ length front + count) × IsWithinStatement count rest

-- The fault of this reason is at this place of the text: behind the statements that a beginning of it spells, and the
-- blanks that follow them.
pub record IsAtFault (kind : RulesErrorKind) (place : ℕ) (text : List ℕ) : Type 0 where
  pub stated : List Statement
  pub front : List ℕ
  pub rest : List ℕ
  pub whole : text ≡ front ++ rest
  pub read : AreRead stated front
  pub visible : BeginsNoBlank rest
  pub fault : IsFault (sort_of kind) place stated text front rest

-- so is the fault of an error
abbrev pub IsPlacedFault : RulesError → List ℕ → Type 0
IsPlacedFault NoMemory text = Unit {0}
IsPlacedFault (Refused place led kind) text = IsAtFault kind place text
