-- Files of tables that are written, and tables by rules.
use Rattle.std.specs.Prelude.{◌≡◌, ℕ, List, [], None, Ok}
use Rattle.icu_table_provider.specs.CollatorTables.{CollatorTables}
use Rattle.icu_table_provider.specs.LoadedTables.{loaded_tables}
use Rattle.icu_table_provider.specs.TableSets.{loads_of}
use Rattle.icu_table_provider.specs.well_formed.WellFormedTables.{IsWellFormedTables}
use Rattle.icu_rule_root.specs.declared.checked_root.CheckedRoot.{CheckedRoot}
use Rattle.icu_rule_root.specs.CheckedRoots.{IsRootOf}
use Rattle.icu_rule_root.specs.StoredRoots.{stored_root}
use Rattle.icu_rule_parser.specs.declared.rules.PlacedStatement.{PlacedStatement}
use Rattle.icu_rule_tables.specs.Tailorings.{SaysRules, tailored_tables}
use Rattle.icu_rule_tables.specs.declared.tailoring.Tailoring.{Tailoring}
use Rattle.icu_table_files.specs.FileContents.{FileContents}
use Rattle.icu_table_files.specs.TableFiles.{IsFileOf}

-- bytes are a file that says this, of well-formed tables
pub record IsWrittenFile (says : FileContents) (bytes : List ℕ) : Type 0 where
  pub is : IsFileOf says bytes
  pub well_formed : IsWellFormedTables says.tables

-- tables are those that a tailoring returns
abbrev pub AreOfTailoring : Tailoring → CollatorTables → Type 0
AreOfTailoring tailoring tables =
    loaded_tables (loads_of (tailored_tables tailoring)) (record { locale = []; collation_type = None }) ≡ Ok tables

-- tables are those that rules say over the root of others
pub record AreByRules (over : CollatorTables) (statements : List PlacedStatement) (tables : CollatorTables) : Type 0 where
  pub root : CheckedRoot
  pub is_root : IsRootOf over (stored_root root)
  pub tailoring : Tailoring
  pub says : SaysRules root statements tailoring
  pub are : AreOfTailoring tailoring tables

-- tables of a root with rules over it: the root's own, where the rules say nothing
abbrev pub AreWithRules : CollatorTables → List PlacedStatement → CollatorTables → Type 0
AreWithRules over [] tables = tables ≡ over
AreWithRules over statements tables = AreByRules over statements tables
