-- The order of Swedish letters by a collation of the rules `&z<å<<<Å<ä<<<Ä<ö<<<Ö` (UTS #35 part 5, "Collation
-- Tailorings").
use Rattle.std.specs.Prelude.{ℕ, ◌≡◌, List, [], ◌∷◌, None}
use Rattle.std.specs.declared.cmp.Ordering.TheVariants.{Less}
use Rattle.icu_options.specs.declared.settings.Strength.TheVariants.{Primary, Tertiary}
use Rattle.icu_order_texts.specs.weighting.Collations.{Collation}
use Rattle.icu_order_texts.specs.TextOrder.{text_order}
use Rattle.icu_rule_parser.specs.declared.rules.PlacedStatement.{PlacedStatement}
use Rattle.icu_rule_root.specs.declared.checked_root.CheckedRoot.{CheckedRoot}
use Rattle.icu_rule_meaning.specs.Rules.{Rule, at_string, relation, reset, rules_of}
use Rattle.icu_rule_tables.specs.Tailorings.{SaysRules, tailored_tables}
use Rattle.icu_rule_tables.specs.declared.tailoring.Tailoring.{Tailoring}
use Rattle.icu_rule_laws.specs.RuleTexts.{AreRuledTables}
use Rattle.icu_rule_laws.specs.apart_elements.ApartElements.{said_at}
use Rattle.icu_rule_laws.specs.related_texts.PlainOrders.{HasNoVariable, HasPlainSettings, ReadsPlainly}

-- the letter that the others come after
abbrev pub z : List ℕ
z = 0x7A ∷ []

-- a with a ring
abbrev pub small_å : List ℕ
small_å = 0xE5 ∷ []

-- A with a ring
abbrev pub capital_å : List ℕ
capital_å = 0xC5 ∷ []

-- a with a diaeresis
abbrev pub small_ä : List ℕ
small_ä = 0xE4 ∷ []

-- A with a diaeresis
abbrev pub capital_ä : List ℕ
capital_ä = 0xC4 ∷ []

-- o with a diaeresis
abbrev pub small_ö : List ℕ
small_ö = 0xF6 ∷ []

-- O with a diaeresis
abbrev pub capital_ö : List ℕ
capital_ö = 0xD6 ∷ []

-- `&z<å<<<Å<ä<<<Ä<ö<<<Ö`
abbrev pub swedish_rules : List Rule
swedish_rules =
    reset None (at_string z) ∷ relation Primary [] small_å [] ∷ relation Tertiary [] capital_å []
    ∷ relation Primary [] small_ä [] ∷ relation Tertiary [] capital_ä [] ∷ relation Primary [] small_ö []
    ∷ relation Tertiary [] capital_ö [] ∷ []

-- A small letter and a capital one differ at the tertiary level alone: they are Equal by the strengths below it, and
-- the small one is Less by the others.
abbrev pub DifferByCase : Collation → List ℕ → List ℕ → Type 0
DifferByCase c small capital =
    HasNoVariable c small → HasNoVariable c capital → text_order c small capital ≡ said_at c.settings.strength 3

-- å comes after z, ä after å and ö after ä, by each strength; and the capitals are told apart by case
pub record OrdersSwedishLetters (c : Collation) : Type 0 where
  pub å_after_z : ReadsPlainly c → HasNoVariable c z → HasNoVariable c small_å → text_order c z small_å ≡ Less
  pub ä_after_small_å : ReadsPlainly c → HasNoVariable c small_å → HasNoVariable c small_ä → text_order c small_å small_ä ≡ Less
  pub ä_after_capital_å : ReadsPlainly c → HasNoVariable c capital_å → HasNoVariable c small_ä → text_order c capital_å small_ä ≡ Less
  pub ö_after_small_ä : ReadsPlainly c → HasNoVariable c small_ä → HasNoVariable c small_ö → text_order c small_ä small_ö ≡ Less
  pub ö_after_capital_ä : ReadsPlainly c → HasNoVariable c capital_ä → HasNoVariable c small_ö → text_order c capital_ä small_ö ≡ Less
  pub cases_of_å : HasPlainSettings c 3 → DifferByCase c small_å capital_å
  pub cases_of_ä : HasPlainSettings c 3 → DifferByCase c small_ä capital_ä
  pub cases_of_ö : HasPlainSettings c 3 → DifferByCase c small_ö capital_ö

-- so by each collation of tables of these rules
abbrev pub SwedishLettersOrder : CheckedRoot → Type 0
SwedishLettersOrder root = (placed : List PlacedStatement) (t : Tailoring) (says : SaysRules root placed t)
    → rules_of placed ≡ swedish_rules → AreRuledTables root t → (c : Collation) → c.tables ≡ tailored_tables t
    → OrdersSwedishLetters c
