-- Relations that give an element without a tertiary weight something below it.
use Rattle.std.specs.Prelude.{ℕ, ◌≡◌, ◌==◌, Bool, true, false, not, ◌&&◌, List, [], ◌∷◌, ◌++◌, Option}
use Rattle.std.specs.List.{list_any}
use Rattle.icu_rule_parser.specs.declared.rules.PlacedStatement.{PlacedStatement}
use Rattle.icu_rule_meaning.specs.declared.symbolic.SymbolicElement.{SymbolicElement}
use Rattle.icu_rule_meaning.specs.Rules.{rules_of}
use Rattle.icu_rule_meaning.specs.Steps.{tailoring_of}
use Rattle.icu_rule_meaning.specs.SymbolicElements.{is_same_weight}
use Rattle.icu_rule_meaning.specs.declared.symbolic.SymbolicWeight.TheVariants.{Rooted}
use Rattle.icu_rule_meaning.specs.TailoredRoots.{Root}
use Rattle.icu_rule_meaning.specs.WeightTrees.{weight_at_level}

-- the element has no weight at a level
abbrev pub has_none_at : ℕ → SymbolicElement → Bool
has_none_at level e = is_same_weight (weight_at_level level e.weights) (Rooted 0)

-- The element has no tertiary weight, and a quaternary one or case bits, which no table may have
-- (`has_lower_half` of icu_table_entries).
abbrev pub lacks_tertiary : SymbolicElement → Bool
lacks_tertiary e = has_none_at 3 e && not (has_none_at 4 e && e.case_bits == 0)

-- the last of the statements stands there, and gives its string such an element
pub record GivesNoTertiary (root : Root) (statements : List PlacedStatement) (place : ℕ) (led : Option ℕ) : Type 0 where
  pub front : List PlacedStatement
  pub placed : PlacedStatement
  pub last : statements ≡ front ++ placed ∷ []
  pub lacks : list_any lacks_tertiary (tailoring_of root (rules_of statements)).elements ≡ true
  pub at_place : placed.place ≡ place
  pub led_by : placed.import ≡ led
