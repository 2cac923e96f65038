-- Rules with what the keywords of a tag set, where no option of a collator does (UTS #35 part 5, "Setting Options").
use Rattle.std.specs.Prelude.{◌≡◌, ℕ, ◌==◌, Bool, true, false, not, List, [], ◌∷◌, ◌++◌, filter, length, map, if◌then◌else◌, Option, Some, None, String, string_bytes}
use Rattle.std.specs.Global.{Vec}
use Rattle.std.specs.declared.alloc.Global.{Global}
use Rattle.icu_cldr_locales.specs.declared.subtag.Subtag.{Subtag}
use Rattle.icu_cldr_locales.specs.declared.subtag.SubtagKind.TheVariants.{Script}
use Rattle.icu_cldr_locales.specs.Subtags.{in_case_of}
use Rattle.icu_rule_parser.specs.declared.rules.PlacedStatement.{PlacedStatement}
use Rattle.icu_rule_parser.specs.declared.statement.RuleSetting.{RuleSetting}
use Rattle.icu_rule_parser.specs.declared.statement.RuleSetting.TheVariants as settings
use Rattle.icu_rule_parser.specs.declared.statement.Statement.{Statement}
use Rattle.icu_rule_parser.specs.declared.statement.Statement.TheVariants.{Setting}

-- a setting, as it stands behind the rules of a text
abbrev pub placed_setting : RuleSetting → PlacedStatement
placed_setting setting = record { place = 0; import = None; statement = Setting setting }

-- whether a statement says that the secondary level is compared from its end
abbrev pub is_backwards : Statement → Bool
is_backwards (Setting settings.Backwards) = true
is_backwards _ = false

-- statements with a backward secondary level, or without one, where a tag says which
abbrev pub with_backward : Option Bool → List PlacedStatement → List PlacedStatement
with_backward None statements = statements
with_backward (Some true) statements = statements ++ placed_setting settings.Backwards ∷ []
with_backward (Some false) statements = filter (λ p. not (is_backwards p.statement)) statements

-- the code of a group as rules write it: that of a script, of four letters, begins with a capital
abbrev pub group_code : List ℕ → List ℕ
group_code code = if length code == 4 then in_case_of Script code else code

-- the code of a group that a subtag is, as rules write it
abbrev pub group_of_code : Subtag → List ℕ
group_of_code code = group_code (string_bytes code.text)

-- statements with a reordering behind them, of the groups with these codes
pub record HasReordering (codes : List Subtag) (before after : List PlacedStatement) : Type 0 where
  pub groups : Vec (String Global)
  pub named : map string_bytes groups.items ≡ map group_of_code codes
  pub are : after ≡ before ++ placed_setting (settings.Reorder groups) ∷ []
