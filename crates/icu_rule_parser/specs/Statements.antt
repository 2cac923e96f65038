-- The tokens of each statement, and which statements may follow which (UTS #35 part 5, "Collation Tailorings").
use Rattle.std.specs.Prelude.{ℕ, true, false, ◌≤◌, List, [], ◌∷◌, ◌++◌, map, Option, Some, None, ◌≡◌, ◌≢◌, codes, String, string_bytes, encode_utf8_all}
use Rattle.std.specs.Char.{IsScalar}
use Rattle.std.specs.List.{AllByRecursion}
use Rattle.ucd_normal.specs.CanonicalCombiningClass.{canonical_combining_class}
use Rattle.unicode_normalization.specs.Decompose.{decompose_canonical}
use Rattle.std.specs.declared.alloc.Global.{Global}
use Rattle.icu_options.specs.declared.settings.Strength.{Strength}
use Rattle.icu_options.specs.declared.settings.Strength.TheVariants as strengths
use Rattle.icu_rule_parser.specs.declared.chain.Chain.{Chain}
use Rattle.icu_rule_parser.specs.declared.chain.Chain.TheVariants as chains
use Rattle.icu_rule_parser.specs.declared.statement.CharacterRange.{CharacterRange}
use Rattle.icu_rule_parser.specs.declared.statement.Anchor.{Anchor}
use Rattle.icu_rule_parser.specs.declared.statement.Anchor.TheVariants as anchors
use Rattle.icu_rule_parser.specs.declared.statement.Reset.{Reset}
use Rattle.icu_rule_parser.specs.declared.statement.Relation.{Relation}
use Rattle.icu_rule_parser.specs.declared.statement.StarredRelation.{StarredRelation}
use Rattle.icu_rule_parser.specs.declared.statement.RuleSetting.{RuleSetting}
use Rattle.icu_rule_parser.specs.declared.statement.RuleSetting.TheVariants as settings
use Rattle.icu_rule_parser.specs.declared.statement.Statement.{Statement}
use Rattle.icu_rule_parser.specs.declared.statement.Statement.TheVariants as statements
use Rattle.icu_rule_parser.specs.Tokens.{Token, reset_sign, relation_sign, prefix_sign, extension_sign, range_sign, vowel_sign, string, bracket, set_bracket, SpellsTokens}
use Rattle.icu_rule_parser.specs.declared.set_parts.SetPart.{SetPart}
use Rattle.icu_rule_parser.specs.CharacterSets.{IsSetOf}
use Rattle.icu_rule_parser.specs.RuleWords.{NamesPosition, level_word, case_level_word, case_first_word, numeric_word, max_variable_word, IsAlternateWord, switch_word}

-- `[before n]` or nothing
abbrev pub AreBefore : Option Strength → List Token → Type 0
AreBefore None tokens = tokens ≡ []
AreBefore (Some level) tokens = (level ≢ strengths.Quaternary) × (level ≢ strengths.Identical)
    × (tokens ≡ bracket (codes "before" ∷ level_word level ∷ []) ∷ [])

-- a string, or a position in brackets
abbrev pub AreAnchor : Anchor → List Token → Type 0
AreAnchor (anchors.String s) tokens = tokens ≡ string s.items ∷ []
AreAnchor (anchors.Position position) tokens = (words : List (List ℕ)) × NamesPosition position words
    × (tokens ≡ bracket words ∷ [])

-- the tokens of a reset
abbrev pub AreReset : Reset → List Token → Type 0
AreReset reset tokens = (before anchor : List Token) × AreBefore reset.before before × AreAnchor reset.anchor anchor
    × (tokens ≡ reset_sign ∷ before ++ anchor)

-- a prefix and its sign, if there is one
abbrev pub prefix_tokens : List ℕ → List Token
prefix_tokens [] = []
prefix_tokens (c ∷ cs) = string (c ∷ cs) ∷ prefix_sign ∷ []

-- an extension behind its sign, if there is one
abbrev pub extension_tokens : List ℕ → List Token
extension_tokens [] = []
extension_tokens (c ∷ cs) = extension_sign ∷ string (c ∷ cs) ∷ []

-- begins with a character that isn't reordered behind another one (UAX #15): its combining class is 0
abbrev pub BeginsWithClassZero : List ℕ → Type 0
BeginsWithClassZero [] = Unit {0}
BeginsWithClassZero (c ∷ cs) = canonical_combining_class c ≡ 0

-- a prefix and the string behind it can be found in a text that is decomposed
abbrev pub HasFindableContext : List ℕ → List ℕ → Type 0
HasFindableContext [] s = Unit {0}
HasFindableContext (c ∷ prefix) s = BeginsWithClassZero (c ∷ prefix) × BeginsWithClassZero s

-- what stands behind the sign of a relation
abbrev pub relation_parts : Relation → List Token
relation_parts r = prefix_tokens r.prefix.items ++ string r.string.items ∷ extension_tokens r.extension.items

-- the tokens of a relation
abbrev pub AreRelation : Relation → List Token → Type 0
AreRelation r tokens = HasFindableContext r.prefix.items r.string.items
    × (tokens ≡ relation_sign r.strength false ∷ relation_parts r)

-- the range of one character
abbrev pub single : ℕ → CharacterRange
single c = record { first = c; last = c }

-- the tokens of strings with a dash before each
abbrev pub dashed_tokens : List (List ℕ) → List Token
dashed_tokens [] = []
dashed_tokens (next ∷ more) = range_sign ∷ string next ∷ dashed_tokens more

-- The ranges that a string, and strings behind it with a dash before each, name. A range goes from the last character
-- before a dash to the first one behind it, which begins no other range.
abbrev pub NameRanges : List ℕ → List (List ℕ) → List CharacterRange → Type 0
NameRanges s [] ranges = ranges ≡ map single s
NameRanges s ([] ∷ more) ranges = ⊥
NameRanges s ((c ∷ next) ∷ more) ranges = (front : List ℕ) × (last : ℕ) × (rest : List CharacterRange) × (last ≤ c)
    × (s ≡ front ++ last ∷ []) × NameRanges next more rest
    × (ranges ≡ map single front ++ record { first = last; last = c } ∷ rest)

-- a character that neither decomposes nor is a combining mark of a class above 0 (UAX #15)
abbrev pub IsInert : ℕ → Type 0
IsInert c = (decompose_canonical c ≡ c ∷ []) × (canonical_combining_class c ≡ 0)

-- each character of the range is inert
abbrev pub IsInertRange : CharacterRange → Type 0
IsInertRange range = (c : ℕ) → range.first ≤ c → c ≤ range.last → IsScalar c → IsInert c

-- the tokens of a starred relation
abbrev pub AreStarred : StarredRelation → List Token → Type 0
AreStarred r tokens = (first : List ℕ) × (more : List (List ℕ)) × NameRanges first more r.ranges.items
    × AllByRecursion IsInertRange r.ranges.items
    × (tokens ≡ relation_sign r.strength true ∷ string first ∷ dashed_tokens more)

-- the text of a word
abbrev pub WritesWord : String Global → List ℕ → Type 0
WritesWord word text = string_bytes word ≡ encode_utf8_all text

-- the texts of words
abbrev pub WriteWords : List (String Global) → List (List ℕ) → Type 0
WriteWords [] texts = texts ≡ []
WriteWords (word ∷ words) texts = (text : List ℕ) × (rest : List (List ℕ)) × WritesWord word text × WriteWords words rest
    × (texts ≡ text ∷ rest)

-- a name and a value in brackets
abbrev pub setting_tokens : List ℕ → List ℕ → List Token
setting_tokens name value = bracket (name ∷ value ∷ []) ∷ []

-- a name in brackets, and a set that has the characters of the ranges
abbrev pub AreSetTokens : List ℕ → List CharacterRange → List Token → Type 0
AreSetTokens name ranges tokens = (stated : List SetPart) × IsSetOf stated ranges × (tokens ≡ set_bracket name stated ∷ [])

-- the tokens of a setting (UTS #35 part 5, "Setting Options")
abbrev pub AreSetting : RuleSetting → List Token → Type 0
AreSetting (settings.Strength strength) tokens = tokens ≡ setting_tokens (codes "strength") (level_word strength)
AreSetting (settings.Alternate handling) tokens = (word : List ℕ) × IsAlternateWord handling word
    × (tokens ≡ setting_tokens (codes "alternate") word)
AreSetting (settings.MaxVariable group) tokens = tokens ≡ setting_tokens (codes "maxVariable") (max_variable_word group)
AreSetting (settings.CaseFirst first) tokens = tokens ≡ setting_tokens (codes "caseFirst") (case_first_word first)
AreSetting (settings.CaseLevel level) tokens = tokens ≡ setting_tokens (codes "caseLevel") (case_level_word level)
AreSetting (settings.NumericOrdering ordering) tokens =
    tokens ≡ setting_tokens (codes "numericOrdering") (numeric_word ordering)
AreSetting settings.Backwards tokens = tokens ≡ setting_tokens (codes "backwards") (codes "2")
AreSetting (settings.Normalization on) tokens = tokens ≡ setting_tokens (codes "normalization") (switch_word on)
AreSetting settings.HiraganaQuaternaryOff tokens = tokens ≡ setting_tokens (codes "hiraganaQ") (codes "off")
AreSetting settings.VowelSign tokens = tokens ≡ vowel_sign ∷ []
AreSetting (settings.Reorder groups) tokens = (words : List (List ℕ)) × WriteWords groups.items words × (words ≢ [])
    × (tokens ≡ bracket (codes "reorder" ∷ words) ∷ [])
AreSetting (settings.SuppressContractions ranges) tokens = AreSetTokens (codes "suppressContractions") ranges.items tokens
AreSetting (settings.Optimize ranges) tokens = AreSetTokens (codes "optimize") ranges.items tokens

-- the tokens of a statement
abbrev pub AreStatement : Statement → List Token → Type 0
AreStatement (statements.Reset reset) tokens = AreReset reset tokens
AreStatement (statements.Relation relation) tokens = AreRelation relation tokens
AreStatement (statements.Starred relation) tokens = AreStarred relation tokens
AreStatement (statements.Setting setting) tokens = AreSetting setting tokens
AreStatement (statements.Import tag) tokens = (word : List ℕ) × WritesWord tag word
    × (tokens ≡ setting_tokens (codes "import") word)

-- the tokens of statements, one after another
abbrev pub AreStatements : List Statement → List Token → Type 0
AreStatements [] tokens = tokens ≡ []
AreStatements (statement ∷ more) tokens = (mine rest : List Token) × AreStatement statement mine
    × AreStatements more rest × (tokens ≡ mine ++ rest)

-- the number of a level
abbrev pub level_number : Strength → ℕ
level_number strengths.Primary = 1
level_number strengths.Secondary = 2
level_number strengths.Tertiary = 3
level_number strengths.Quaternary = 4
level_number strengths.Identical = 5

-- A relation of this strength may stand here. Behind a reset with [before n] the first relation is as strong as that,
-- and none is stronger.
abbrev pub MayRelate : Chain → Strength → Type 0
MayRelate chains.Outside strength = ⊥
MayRelate (chains.BehindReset None) strength = Unit {0}
MayRelate (chains.BehindReset (Some before)) strength = level_number strength ≡ level_number before
MayRelate (chains.BehindRelation None) strength = Unit {0}
MayRelate (chains.BehindRelation (Some before)) strength = level_number before ≤ level_number strength

-- the reset before has its relation
abbrev pub IsComplete : Chain → Type 0
IsComplete chains.Outside = Unit {0}
IsComplete (chains.BehindReset before) = ⊥
IsComplete (chains.BehindRelation before) = Unit {0}

-- the statement may stand here: a relation behind a reset or a relation, and others where each reset has its relation
abbrev pub MayFollow : Chain → Statement → Type 0
MayFollow chain (statements.Reset reset) = IsComplete chain
MayFollow chain (statements.Relation r) = MayRelate chain r.strength
MayFollow chain (statements.Starred r) = MayRelate chain r.strength
MayFollow chain (statements.Setting setting) = IsComplete chain
MayFollow chain (statements.Import tag) = IsComplete chain

-- what stands behind a relation
abbrev pub after_relation : Chain → Chain
after_relation chains.Outside = chains.Outside
after_relation (chains.BehindReset before) = chains.BehindRelation before
after_relation (chains.BehindRelation before) = chains.BehindRelation before

-- what stands behind a statement
abbrev pub chain_after : Chain → Statement → Chain
chain_after chain (statements.Reset reset) = chains.BehindReset reset.before
chain_after chain (statements.Relation r) = after_relation chain
chain_after chain (statements.Starred r) = after_relation chain
chain_after chain (statements.Setting setting) = chains.Outside
chain_after chain (statements.Import tag) = chains.Outside

-- the statements may stand here, in this order, and each reset has its relation
abbrev pub AreInOrder : Chain → List Statement → Type 0
AreInOrder chain [] = IsComplete chain
AreInOrder chain (statement ∷ more) = MayFollow chain statement × AreInOrder (chain_after chain statement) more

-- The statements and the text say the same: the text spells their tokens, and they may stand so.
pub record SpellStatements (stated : List Statement) (text : List ℕ) : Type 0 where
  pub tokens : List Token
  pub spelled : SpellsTokens tokens text
  pub each : AreStatements stated tokens
  pub in_order : AreInOrder chains.Outside stated
