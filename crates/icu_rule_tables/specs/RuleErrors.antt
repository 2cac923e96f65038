-- What an error of tables by rules says.
use Rattle.std.specs.Prelude.{ℕ, ◌≡◌, Bool, true, false, List, take, Option, Some}
use Rattle.std.specs.List.{Contains}
use Rattle.icu_rule_parser.specs.declared.rules.PlacedStatement.{PlacedStatement}
use Rattle.icu_rule_parser.specs.declared.statement.Statement.{Statement}
use Rattle.icu_rule_parser.specs.declared.statement.Statement.TheVariants.{Setting}
use Rattle.icu_rule_parser.specs.declared.statement.RuleSetting.TheVariants.{Reorder}
use Rattle.icu_rule_parser.specs.declared.rules_error.RulesError.{RulesError}
use Rattle.icu_rule_parser.specs.declared.rules_error.RulesError.TheVariants as reading
use Rattle.icu_rule_meaning.specs.TailoredRoots.{Root}
use Rattle.icu_rule_meaning.specs.Steps.{first_state}
use Rattle.icu_rule_steps.specs.declared.tailoring_error.TailoringError.{TailoringError}
use Rattle.icu_rule_steps.specs.declared.tailoring_error.TailoringError.TheVariants as saying
use Rattle.icu_rule_steps.specs.RuleFaults.{first_error}
use Rattle.icu_rule_steps.specs.WeightMakers.{maker_of}
use Rattle.icu_rule_tables.specs.declared.tailored_entries.error.TailoredEntriesError.{TailoredEntriesError}
use Rattle.icu_rule_tables.specs.declared.tailored_entries.error.TailoredEntriesError.TheVariants as entries
use Rattle.icu_rule_tables.specs.NoTertiary.{GivesNoTertiary}
use Rattle.icu_rule_tables.specs.declared.rule_tables_error.RuleRefusal.{RuleRefusal}
use Rattle.icu_rule_tables.specs.declared.rule_tables_error.RuleRefusal.TheVariants.{Unread, Unsaid, NoRoom, NoTertiary, Unreordered}
use Rattle.icu_rule_tables.specs.declared.rule_tables_error.RuleTablesError.{RuleTablesError}
use Rattle.icu_rule_tables.specs.declared.rule_tables_error.RuleTablesError.TheVariants.{NoMemory, Refused, Unordered, Entries, Table}

-- the error of a text that isn't rules
abbrev pub of_rules_error : RulesError → RuleTablesError
of_rules_error reading.NoMemory = NoMemory
of_rules_error (reading.Refused place led kind) = Refused place led (Unread kind)

-- the error of rules of which one is refused
abbrev pub of_tailoring_error : TailoringError → RuleTablesError
of_tailoring_error saying.NoMemory = NoMemory
of_tailoring_error (saying.Refused place led kind) = Refused place led (Unsaid kind)

-- the error of mappings without entries
abbrev pub of_entries_error : TailoredEntriesError → RuleTablesError
of_entries_error entries.NoMemory = NoMemory
of_entries_error error = Entries error

-- a statement that makes a tailored weight stands there
abbrev pub MakesWeightAt : Root → List PlacedStatement → ℕ → Option ℕ → Type 0
MakesWeightAt root statements place led = (weight : ℕ)
    × (maker_of root weight (first_state root) statements ≡ Some (record { place = place; import = led }))

-- the statement is a reordering
abbrev pub is_reordering : Statement → Bool
is_reordering (Setting (Reorder groups)) = true
is_reordering _ = false

-- a statement that is a reordering stands there
pub record StatesReordering (statements : List PlacedStatement) (place : ℕ) (led : Option ℕ) : Type 0 where
  pub placed : PlacedStatement
  pub among : Contains statements placed
  pub is_one : is_reordering placed.statement ≡ true
  pub at_place : placed.place ≡ place
  pub led_by : placed.import ≡ led

-- what is wrong with the statement at a place
abbrev pub RefusesStatement : Root → List PlacedStatement → ℕ → Option ℕ → RuleRefusal → Type 0
RefusesStatement root statements place led (Unread kind) = ⊥
RefusesStatement root statements place led (Unsaid kind) =
    first_error root (first_state root) statements ≡ Some (saying.Refused place led kind)
RefusesStatement root statements place led (NoRoom level) = MakesWeightAt root statements place led
RefusesStatement root statements place led NoTertiary = (count : ℕ) × GivesNoTertiary root (take count statements) place led
RefusesStatement root statements place led (Unreordered error) = StatesReordering statements place led

-- The error of rules that were read. It is of the statement by which there are too many relations, or else of the first
-- one that is refused. For lack of room it is of one that makes a weight. For lack of a tertiary weight it is of one
-- that gives its string elements of which one lacks it. For groups that can't be reordered it is of a reordering. Which
-- other errors there are is left open.
abbrev pub IsErrorOfRules : Root → List PlacedStatement → RuleTablesError → Type 0
IsErrorOfRules root statements (Refused place led kind) = RefusesStatement root statements place led kind
IsErrorOfRules root statements NoMemory = Unit {0}
IsErrorOfRules root statements Unordered = Unit {0}
IsErrorOfRules root statements (Entries error) = Unit {0}
IsErrorOfRules root statements (Table error) = Unit {0}
