-- The tables of a collation by rules.
use Rattle.std.specs.Prelude.{ℕ, ◌≡◌, ◌<◌, List, Option, Some, None, map, option_map}
use Rattle.icu_table_data.specs.Data.{Data}
use Rattle.icu_table_data.specs.CodePointTables.{code_point_count}
use Rattle.icu_table_provider.specs.builder.OwnedData.{owned_data}
use Rattle.icu_table_provider.specs.CollatorTables.{CollatorTables}
use Rattle.icu_table_provider.specs.OwnedTables.{owned_diacritics, owned_jamo, owned_reordering}
use Rattle.icu_table_provider.specs.Reorderings.{Reordering}
use Rattle.icu_table_provider.specs.Tables.{Tables}
use Rattle.icu_table_provider.specs.well_formed.Checked.{checked_tables}
use Rattle.icu_table_provider.specs.declared.well_formed.checked.CheckedTables.{CheckedTables}
use Rattle.icu_rule_parser.specs.declared.rules.PlacedStatement.{PlacedStatement}
use Rattle.icu_rule_parser.specs.declared.statement.RuleSetting.{RuleSetting}
use Rattle.icu_rule_parser.specs.Statements.{SpellStatements}
use Rattle.icu_rule_meaning.specs.Steps.{TailoringState, first_state}
use Rattle.icu_rule_steps.specs.symbolic_mappings.KeptMappings.{mappings_in}
use Rattle.icu_rule_steps.specs.symbolic_mappings.TouchedCharacters.{root_of}
use Rattle.icu_rule_steps.specs.declared.symbolic_mappings.kept_mappings.Mappings.{Mappings}
use Rattle.icu_rule_tables.specs.tailored_entries.GivenMappings.{TailorsCharacter}
use Rattle.icu_rule_tables.specs.tailored_entries.TailoredJamo.{TailorsJamo}
use Rattle.icu_rule_tables.specs.tailored_entries.TailoredDiacritics.{TailorsDiacritics}
use Rattle.icu_rule_weights.specs.declared.tailoring_numbers.tailoring_numbers.TailoringNumbers.{TailoringNumbers}
use Rattle.icu_rule_steps.specs.RuleFaults.{first_error}
use Rattle.icu_rule_root.specs.declared.checked_root.CheckedRoot.{CheckedRoot}
use Rattle.icu_rule_root.specs.RootEntries.{root_mappings_of}
use Rattle.icu_rule_root.specs.StoredRoots.{stored_root, tables_beside}
use Rattle.icu_rule_tables.specs.RuleReorderings.{IsReorderingOf}
use Rattle.icu_rule_tables.specs.RuleSettings.{tailored_bits}
use Rattle.icu_rule_tables.specs.StatesByRules.{NumbersState, mappings_beside, state_over}
use Rattle.icu_rule_tables.specs.declared.own_jamo.OwnJamo.{OwnJamo}
use Rattle.icu_rule_tables.specs.declared.tailoring.Tailoring.{Tailoring}

-- the tables of a root with a tailoring, its settings, the last one first, a root and entries of jamo in place of that
-- root's, its secondary weights of diacritics, and a reordering, if there is one
abbrev pub tables_by_rules : CollatorTables → List RuleSetting → Data → List ℕ → Data → List ℕ → Option Reordering → CollatorTables
tables_by_rules over said root jamo own diacritics reordering = record {
  tables = record { root = root; tailoring = Some own; jamo = jamo; diacritics = diacritics };
  special = over.special;
  bits = tailored_bits over said diacritics;
  reordering = reordering;
}

-- the root of a tailoring: one of its own, if it has one, and else that of the checked tables
abbrev pub root_beside : CheckedTables → Option OwnJamo → Data
root_beside over None = (checked_tables over).tables.root
root_beside over (Some own) = owned_data own.root

-- the entries of jamo of a tailoring: those of its own, if it has some, and else those of the checked tables
abbrev pub jamo_beside : CheckedTables → Option OwnJamo → List ℕ
jamo_beside over None = (checked_tables over).tables.jamo
jamo_beside over (Some own) = owned_jamo own.jamo

-- all tables of a collation by rules
abbrev pub tailored_tables : Tailoring → CollatorTables
tailored_tables t = record {
  tables = record {
    root = root_beside t.root.now t.jamo;
    tailoring = Some (owned_data t.lists);
    jamo = jamo_beside t.root.now t.jamo;
    diacritics = owned_diacritics t.diacritics;
  };
  special = (checked_tables t.root.now).special;
  bits = t.metadata.bits;
  reordering = option_map owned_reordering t.reordering;
}

-- The mappings of a state, as they are kept over this root. By them a tailoring gives each character its entry, a table
-- of jamo, with the root to whose lists it refers, each jamo, and a table of diacritics each mark its weight.
pub record GivesState (over : Tables) (numbers : TailoringNumbers) (state : TailoringState) (root : Data) (jamo : List ℕ) (own : Data) (diacritics : List ℕ) : Type 0 where
  pub kept : Mappings CheckedRoot
  pub same : mappings_in mappings_beside kept ≡ state.mappings
  pub of_root : mappings_beside (root_of kept) ≡ root_mappings_of over
  pub gives : (c : ℕ) → c < code_point_count → TailorsCharacter mappings_beside numbers kept own c
  pub gives_jamo : TailorsJamo mappings_beside numbers kept over.root over.jamo root jamo
  pub gives_diacritics : TailorsDiacritics mappings_beside numbers kept over.diacritics diacritics

-- the tables of a root with a tailoring, and with entries of jamo, that give what a state says, by these numbers, with
-- its settings, and with the reordering that it says
pub record HasTablesOf (over : CheckedRoot) (numbers : TailoringNumbers) (state : TailoringState) (t : Tailoring) : Type 0 where
  pub root : Data
  pub jamo : List ℕ
  pub own : Data
  pub diacritics : List ℕ
  pub given : GivesState (checked_tables (tables_beside over)).tables numbers state root jamo own diacritics
  pub reordering : Option Reordering
  pub reordered : IsReorderingOf over numbers state reordering
  pub are : tailored_tables t ≡ tables_by_rules (checked_tables (tables_beside over)) state.settings root jamo own diacritics reordering

-- tables of rules, none of which is refused, by some numbers
pub record SaysRules (root : CheckedRoot) (statements : List PlacedStatement) (t : Tailoring) : Type 0 where
  pub unrefused : first_error (stored_root root) (first_state (stored_root root)) statements ≡ None
  pub numbers : TailoringNumbers
  pub numbered : NumbersState (stored_root root) (state_over root statements) numbers
  pub tables : HasTablesOf root numbers (state_over root statements) t

-- tables of the rules that a text spells
pub record SaysText (root : CheckedRoot) (text : List ℕ) (t : Tailoring) : Type 0 where
  pub statements : List PlacedStatement
  pub spelled : SpellStatements (map (λ p. p.statement) statements) text
  pub says : SaysRules root statements t
