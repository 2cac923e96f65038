-- The root that checked tables have, as it is stored.
use Rattle.icu_table_provider.specs.well_formed.Checked.{checked_tables}
use Rattle.icu_table_provider.specs.declared.well_formed.checked.CheckedTables.{CheckedTables}
use Rattle.icu_rule_meaning.specs.TailoredRoots.{Root}
use Rattle.icu_rule_root.specs.RootEntries.{root_mappings_of}
use Rattle.icu_rule_root.specs.inner.KeyWindows.{weights_by_keys}
use Rattle.icu_rule_root.specs.declared.checked_root.CheckedRoot.{CheckedRoot}

-- the root
abbrev pub stored_root : CheckedRoot → Root
stored_root r = record {
  mappings = root_mappings_of (checked_tables r.tables.now).tables;
  weights = weights_by_keys r.keys.items;
  last_variable = r.last_variable;
  last_regular = r.last_regular;
  first_implicit = r.first_implicit;
}

-- the tables
abbrev pub tables_beside : CheckedRoot → CheckedTables
tables_beside r = r.tables.now
