-- What rules say over the root of checked tables, and the numbers of their weights.
use Rattle.std.specs.Prelude.{ℕ, List}
use Rattle.icu_table_provider.specs.well_formed.Checked.{checked_tables}
use Rattle.icu_rule_parser.specs.declared.rules.PlacedStatement.{PlacedStatement}
use Rattle.icu_rule_meaning.specs.Rules.{rules_of}
use Rattle.icu_rule_meaning.specs.TailoredRoots.{RootMapping, Root}
use Rattle.icu_rule_meaning.specs.Steps.{TailoringState, tailoring_of}
use Rattle.icu_rule_meaning.specs.SymbolicOrders.{NumbersTree}
use Rattle.icu_rule_weights.specs.declared.tailoring_numbers.tailoring_numbers.TailoringNumbers.{TailoringNumbers}
use Rattle.icu_rule_weights.specs.tailoring_numbers.Numberings.{numbering_of}
use Rattle.icu_rule_weights.specs.tailoring_numbers.RootNeighbours.{KeepsNeighbours}
use Rattle.icu_rule_steps.specs.SymbolicTailorings.{state_in}
use Rattle.icu_rule_steps.specs.declared.symbolic_tailoring.SymbolicTailoring.{SymbolicTailoring}
use Rattle.icu_rule_root.specs.declared.checked_root.CheckedRoot.{CheckedRoot}
use Rattle.icu_rule_root.specs.RootEntries.{root_mappings_of}
use Rattle.icu_rule_root.specs.StoredRoots.{stored_root, tables_beside}

-- what rules say over a root
abbrev pub state_over : CheckedRoot → List PlacedStatement → TailoringState
state_over root statements = tailoring_of (stored_root root) (rules_of statements)

-- the mappings of the root's tables
abbrev pub mappings_beside : CheckedRoot → ℕ → List RootMapping
mappings_beside root = root_mappings_of (checked_tables (tables_beside root)).tables

-- what rules have said, as it is kept
abbrev pub said_by : SymbolicTailoring CheckedRoot → TailoringState
said_by = state_in mappings_beside

-- the weights of a state have numbers, which ascend among siblings and stand between the same neighbours in the root
pub record NumbersState (root : Root) (state : TailoringState) (numbers : TailoringNumbers) : Type 0 where
  pub numbered : NumbersTree state.tree (numbering_of numbers)
  pub between : KeepsNeighbours root state.tree (numbering_of numbers)
