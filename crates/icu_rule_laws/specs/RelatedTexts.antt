-- Relations hold by the tables of rules (UTS #35 part 5, "Collation Tailorings"; UTS #10, "Compare Sort Keys").
use Rattle.std.specs.Prelude.{ℕ, ◌≡◌, ◌<◌, ◌≤◌, List, Option, Some, None}
use Rattle.std.specs.declared.cmp.Ordering.TheVariants.{Less}
use Rattle.icu_options.specs.declared.settings.Strength.{Strength}
use Rattle.icu_order_levels.specs.ListOrder.{list_order}
use Rattle.icu_table_entries.specs.Elements.{Element}
use Rattle.icu_rule_parser.specs.declared.rules.PlacedStatement.{PlacedStatement}
use Rattle.icu_rule_parser.specs.declared.statement.Statement.{Statement}
use Rattle.icu_rule_parser.specs.declared.statement.Statement.TheVariants as statements
use Rattle.icu_rule_weights.specs.tailoring_numbers.NumberedElements.{element_numbers}

-- elements have the same weights at the levels before this one, and the first are less here
pub record AreLessElements (level : ℕ) (xs ys : List Element) : Type 0 where
  pub same : (before : ℕ) → 1 ≤ before → before < level → element_numbers before xs ≡ element_numbers before ys
  pub less : list_order (element_numbers level xs) (element_numbers level ys) ≡ Less

-- the strength of a relation
abbrev pub strength_said : Statement → Option Strength
strength_said (statements.Relation r) = Some r.strength
strength_said _ = None

-- that of the relation that stands at a place, if one does
abbrev pub relation_strength : Option PlacedStatement → Option Strength
relation_strength None = None
relation_strength (Some placed) = strength_said placed.statement
