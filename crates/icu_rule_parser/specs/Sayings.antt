-- What statements say, wherever their strings lie in memory.
use Rattle.std.specs.Prelude.{ℕ, List, [], map, Option, string_bytes, ◌≡◌}
use Rattle.std.specs.Char.{IsScalar}
use Rattle.icu_options.specs.declared.settings.Strength.{Strength}
use Rattle.icu_rule_parser.specs.declared.statement.CharacterRange.{CharacterRange}
use Rattle.icu_rule_parser.specs.CharacterSets.{have_character}
use Rattle.icu_rule_parser.specs.declared.statement.LogicalPosition.{LogicalPosition}
use Rattle.icu_rule_parser.specs.declared.statement.Anchor.{Anchor}
use Rattle.icu_rule_parser.specs.declared.statement.Anchor.TheVariants as anchors
use Rattle.icu_rule_parser.specs.declared.statement.RuleSetting.{RuleSetting}
use Rattle.icu_rule_parser.specs.declared.statement.RuleSetting.TheVariants as settings
use Rattle.icu_rule_parser.specs.declared.statement.Statement.{Statement}
use Rattle.icu_rule_parser.specs.declared.statement.Statement.TheVariants as statements

-- where a reset goes to
pub data Target : Type 0 where
  at_string : List ℕ → Target
  at_position : LogicalPosition → Target

-- what a statement says
pub data Saying : Type 0 where
  -- the level of `[before n]`, and where to
  resets_to : Option Strength → Target → Saying
  -- strength, prefix, string and extension
  relates : Strength → List ℕ → List ℕ → List ℕ → Saying
  relates_each : Strength → List CharacterRange → Saying
  -- a setting without a list
  sets : RuleSetting → Saying
  -- the bytes of the groups
  reorders : List (List ℕ) → Saying
  -- sets, of which `SetsAgree` speaks
  suppresses : Saying
  optimizes : Saying
  -- the bytes of the tag
  imports : List ℕ → Saying

-- where a reset goes to
abbrev pub target : Anchor → Target
target (anchors.String s) = at_string s.items
target (anchors.Position position) = at_position position

-- what a setting says
abbrev pub setting_saying : RuleSetting → Saying
setting_saying (settings.Strength level) = sets (settings.Strength level)
setting_saying (settings.Alternate handling) = sets (settings.Alternate handling)
setting_saying (settings.MaxVariable group) = sets (settings.MaxVariable group)
setting_saying (settings.CaseFirst first) = sets (settings.CaseFirst first)
setting_saying (settings.CaseLevel level) = sets (settings.CaseLevel level)
setting_saying (settings.NumericOrdering ordering) = sets (settings.NumericOrdering ordering)
setting_saying settings.Backwards = sets settings.Backwards
setting_saying (settings.Normalization on) = sets (settings.Normalization on)
setting_saying settings.HiraganaQuaternaryOff = sets settings.HiraganaQuaternaryOff
setting_saying settings.VowelSign = sets settings.VowelSign
setting_saying (settings.Reorder groups) = reorders (map string_bytes groups.items)
setting_saying (settings.SuppressContractions ranges) = suppresses
setting_saying (settings.Optimize ranges) = optimizes

-- what a statement says
abbrev pub saying : Statement → Saying
saying (statements.Reset reset) = resets_to reset.before (target reset.anchor)
saying (statements.Relation r) = relates r.strength r.prefix.items r.string.items r.extension.items
saying (statements.Starred r) = relates_each r.strength r.ranges.items
saying (statements.Setting setting) = setting_saying setting
saying (statements.Import tag) = imports (string_bytes tag)

-- the ranges of a setting's set
abbrev pub ranges_of_setting : RuleSetting → List CharacterRange
ranges_of_setting (settings.Strength level) = []
ranges_of_setting (settings.Alternate handling) = []
ranges_of_setting (settings.MaxVariable group) = []
ranges_of_setting (settings.CaseFirst first) = []
ranges_of_setting (settings.CaseLevel level) = []
ranges_of_setting (settings.NumericOrdering ordering) = []
ranges_of_setting settings.Backwards = []
ranges_of_setting (settings.Normalization on) = []
ranges_of_setting settings.HiraganaQuaternaryOff = []
ranges_of_setting settings.VowelSign = []
ranges_of_setting (settings.Reorder groups) = []
ranges_of_setting (settings.SuppressContractions ranges) = ranges.items
ranges_of_setting (settings.Optimize ranges) = ranges.items

-- the ranges of a statement's set, if it has one
abbrev pub ranges_of_set : Statement → List CharacterRange
ranges_of_set (statements.Reset reset) = []
ranges_of_set (statements.Relation r) = []
ranges_of_set (statements.Starred r) = []
ranges_of_set (statements.Setting setting) = ranges_of_setting setting
ranges_of_set (statements.Import tag) = []

-- the sets of two statements have the same characters
abbrev pub SetsAgree : Statement → Statement → Type 0
SetsAgree one other = (c : ℕ) → IsScalar c → have_character (ranges_of_set one) c ≡ have_character (ranges_of_set other) c
