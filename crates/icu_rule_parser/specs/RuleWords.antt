-- The words of positions and settings (UTS #35 part 5, "Collation Tailorings" and "Setting Options").
use Rattle.std.specs.Prelude.{ℕ, Bool, true, false, List, [], ◌∷◌, ◌≡◌, ◌⊎◌, codes}
use Rattle.icu_options.specs.declared.settings.Strength.{Strength}
use Rattle.icu_options.specs.declared.settings.Strength.TheVariants as strengths
use Rattle.icu_options.specs.declared.settings.AlternateHandling.{AlternateHandling}
use Rattle.icu_options.specs.declared.settings.AlternateHandling.TheVariants.{NonIgnorable, Shifted, Blanked}
use Rattle.icu_options.specs.declared.settings.MaxVariable.{MaxVariable}
use Rattle.icu_options.specs.declared.settings.MaxVariable.TheVariants.{Space, Punctuation, Symbol, Currency}
use Rattle.icu_options.specs.declared.settings.CaseLevel.{CaseLevel}
use Rattle.icu_options.specs.declared.settings.CaseLevel.TheVariants as case_levels
use Rattle.icu_options.specs.declared.settings.CollationCaseFirst.{CollationCaseFirst}
use Rattle.icu_options.specs.declared.settings.CollationCaseFirst.TheVariants as case_firsts
use Rattle.icu_options.specs.declared.settings.CollationNumericOrdering.{CollationNumericOrdering}
use Rattle.icu_options.specs.declared.settings.CollationNumericOrdering.TheVariants as numeric
use Rattle.icu_rule_parser.specs.declared.statement.LogicalPosition.{LogicalPosition}
use Rattle.icu_rule_parser.specs.declared.statement.LogicalPosition.TheVariants as positions

-- the words of a position
abbrev pub position_words : LogicalPosition → List (List ℕ)
position_words positions.FirstTertiaryIgnorable = codes "first" ∷ codes "tertiary" ∷ codes "ignorable" ∷ []
position_words positions.LastTertiaryIgnorable = codes "last" ∷ codes "tertiary" ∷ codes "ignorable" ∷ []
position_words positions.FirstSecondaryIgnorable = codes "first" ∷ codes "secondary" ∷ codes "ignorable" ∷ []
position_words positions.LastSecondaryIgnorable = codes "last" ∷ codes "secondary" ∷ codes "ignorable" ∷ []
position_words positions.FirstPrimaryIgnorable = codes "first" ∷ codes "primary" ∷ codes "ignorable" ∷ []
position_words positions.LastPrimaryIgnorable = codes "last" ∷ codes "primary" ∷ codes "ignorable" ∷ []
position_words positions.FirstVariable = codes "first" ∷ codes "variable" ∷ []
position_words positions.LastVariable = codes "last" ∷ codes "variable" ∷ []
position_words positions.FirstRegular = codes "first" ∷ codes "regular" ∷ []
position_words positions.LastRegular = codes "last" ∷ codes "regular" ∷ []
position_words positions.FirstImplicit = codes "first" ∷ codes "implicit" ∷ []
position_words positions.LastImplicit = codes "last" ∷ codes "implicit" ∷ []
position_words positions.FirstTrailing = codes "first" ∷ codes "trailing" ∷ []
position_words positions.LastTrailing = codes "last" ∷ codes "trailing" ∷ []

-- the words of a position, or those that older rules have
abbrev pub NamesPosition : LogicalPosition → List (List ℕ) → Type 0
NamesPosition position words = (words ≡ position_words position)
    ⊎ ((position ≡ positions.LastRegular) × (words ≡ codes "top" ∷ []))
    ⊎ ((position ≡ positions.LastVariable) × (words ≡ codes "variable" ∷ codes "top" ∷ []))

-- a level by its number
abbrev pub level_word : Strength → List ℕ
level_word strengths.Primary = codes "1"
level_word strengths.Secondary = codes "2"
level_word strengths.Tertiary = codes "3"
level_word strengths.Quaternary = codes "4"
level_word strengths.Identical = codes "I"

-- the word of a case level
abbrev pub case_level_word : CaseLevel → List ℕ
case_level_word case_levels.Off = codes "off"
case_level_word case_levels.On = codes "on"

-- the word that says which case is first
abbrev pub case_first_word : CollationCaseFirst → List ℕ
case_first_word case_firsts.False = codes "off"
case_first_word case_firsts.Lower = codes "lower"
case_first_word case_firsts.Upper = codes "upper"

-- the word that says how numbers are ordered
abbrev pub numeric_word : CollationNumericOrdering → List ℕ
numeric_word numeric.False = codes "off"
numeric_word numeric.True = codes "on"

-- the word of the last variable group
abbrev pub max_variable_word : MaxVariable → List ℕ
max_variable_word Space = codes "space"
max_variable_word Punctuation = codes "punct"
max_variable_word Symbol = codes "symbol"
max_variable_word Currency = codes "currency"

-- blanked handling has no word
abbrev pub IsAlternateWord : AlternateHandling → List ℕ → Type 0
IsAlternateWord NonIgnorable word = word ≡ codes "non-ignorable"
IsAlternateWord Shifted word = word ≡ codes "shifted"
IsAlternateWord Blanked word = ⊥

-- the word of a switch
abbrev pub switch_word : Bool → List ℕ
switch_word true = codes "on"
switch_word false = codes "off"
