-- What the reading of a statement, or of a part of one, took from a text.
use Rattle.std.specs.Prelude.{ℕ, Bool, true, false, List, [], ◌∷◌, ◌++◌, ◌≡◌, ◌≢◌, codes}
use Rattle.std.specs.List.{AllByRecursion}
use Rattle.icu_options.specs.declared.settings.Strength.{Strength}
use Rattle.icu_options.specs.declared.settings.Strength.TheVariants as strengths
use Rattle.icu_rule_parser.specs.declared.relations.Sign.{Sign}
use Rattle.icu_rule_parser.specs.declared.resets.Said.{Said}
use Rattle.icu_rule_parser.specs.declared.resets.Said.TheVariants as said_by
use Rattle.icu_rule_parser.specs.declared.statement.CharacterRange.{CharacterRange}
use Rattle.icu_rule_parser.specs.declared.statement.Anchor.{Anchor}
use Rattle.icu_rule_parser.specs.declared.statement.Reset.{Reset}
use Rattle.icu_rule_parser.specs.declared.statement.Statement.{Statement}
use Rattle.icu_rule_parser.specs.declared.statement.Statement.TheVariants as statements
use Rattle.icu_rule_parser.specs.Tokens.{Token, reset_sign, string, bracket, IsRelationSign}
use Rattle.icu_rule_parser.specs.RuleWords.{NamesPosition, level_word}
use Rattle.icu_rule_parser.specs.Statements.{AreAnchor, AreReset, AreStatement, NameRanges, IsInertRange, dashed_tokens}
use Rattle.icu_rule_parser.specs.TakenText.{Takes}

-- the text is a star and the rest, if that is true; else it is the rest
abbrev pub StarBehind : Bool → List ℕ → List ℕ → Type 0
StarBehind true text rest = text ≡ 42 ∷ rest
StarBehind false text rest = text ≡ rest

-- the text is the sign of a relation, and the rest
abbrev pub TakesSign : List ℕ → Sign → List ℕ → Type 0
TakesSign text sign rest = (mine : List ℕ) × IsRelationSign sign.strength sign.is_starred mine × (text ≡ mine ++ rest)

-- the words behind `&` say so
abbrev pub SaysBehindReset : Said → List (List ℕ) → Type 0
SaysBehindReset (said_by.Before level) words = (level ≢ strengths.Quaternary) × (level ≢ strengths.Identical)
    × (words ≡ codes "before" ∷ level_word level ∷ [])
SaysBehindReset (said_by.Position position) words = NamesPosition position words

-- the text goes on with words in brackets that say so, and with the rest
abbrev pub TakesSaid : List ℕ → Said → List ℕ → Type 0
TakesSaid text said rest = (words : List (List ℕ)) × SaysBehindReset said words × Takes text (bracket words ∷ []) rest

-- the text goes on with an anchor, and with the rest
abbrev pub TakesAnchor : List ℕ → Anchor → List ℕ → Type 0
TakesAnchor text anchor rest = (tokens : List Token) × AreAnchor anchor tokens × Takes text tokens rest

-- the text goes on with what follows the `&` of a reset, and with the rest
abbrev pub TakesReset : List ℕ → Reset → List ℕ → Type 0
TakesReset text reset rest = (tokens : List Token) × AreReset reset (reset_sign ∷ tokens) × Takes text tokens rest

-- The text goes on with strings, with dashes between, that name the ranges, each of which is inert, and with the rest.
abbrev pub TakesStarred : List ℕ → List CharacterRange → List ℕ → Type 0
TakesStarred text ranges rest = (first : List ℕ) × (more : List (List ℕ)) × NameRanges first more ranges
    × AllByRecursion IsInertRange ranges × Takes text (string first ∷ dashed_tokens more) rest

-- the text goes on with a statement, and with the rest
abbrev pub TakesStatement : List ℕ → Statement → List ℕ → Type 0
TakesStatement text statement rest = (tokens : List Token) × AreStatement statement tokens × Takes text tokens rest

-- no relation
abbrev pub IsUnrelated : Statement → Type 0
IsUnrelated (statements.Reset reset) = Unit {0}
IsUnrelated (statements.Relation r) = ⊥
IsUnrelated (statements.Starred r) = ⊥
IsUnrelated (statements.Setting setting) = Unit {0}
IsUnrelated (statements.Import tag) = Unit {0}

-- a relation of this strength
abbrev pub Relates : Strength → Statement → Type 0
Relates strength (statements.Reset reset) = ⊥
Relates strength (statements.Relation r) = r.strength ≡ strength
Relates strength (statements.Starred r) = r.strength ≡ strength
Relates strength (statements.Setting setting) = ⊥
Relates strength (statements.Import tag) = ⊥
