-- The tables that a value of checked tables keeps.
use Rattle.icu_table_provider.specs.CollatorTables.{CollatorTables}
use Rattle.icu_table_provider.specs.OwnedTables.{owned_tables}
use Rattle.icu_table_provider.specs.declared.well_formed.checked.CheckedTables.{CheckedTables}

-- what the tables say that are kept
abbrev pub checked_tables : CheckedTables → CollatorTables
checked_tables t = owned_tables t.tables
