-- The tables of a collator, as they are borrowed, and as a provider gives them.
use Rattle.std.specs.Prelude.{Option, Some, None, Result, Ok, Err, option_map}
use Rattle.icu_table_entries.specs.declared.error.DataError.{DataError}
use Rattle.icu_table_entries.specs.declared.error.DataErrorKind.TheVariants.{Absent}
use Rattle.icu_table_entries.specs.declared.error.DataTable.{DataTable}
use Rattle.icu_table_entries.specs.declared.error.DataTable.TheVariants.{Tailoring, Reordering}
use Rattle.icu_table_data.specs.StoredData.{data_of}
use Rattle.icu_table_provider.specs.declared.table_set.TableSet.{TableSet}
use Rattle.icu_table_provider.specs.StoredTables.{jamo_of, diacritics_of, special_of, reordering_of}
use Rattle.icu_table_provider.specs.CollatorTables.{CollatorTables}
use Rattle.icu_table_provider.specs.Loads.{Loads}

-- what seven borrowed tables say
unfoldable pub tables_in : TableSet → CollatorTables
tables_in s = record {
  tables = record {
    root = data_of s.root;
    tailoring = option_map data_of s.tailoring;
    jamo = jamo_of s.jamo;
    diacritics = diacritics_of s.diacritics;
  };
  special = special_of s.special;
  bits = s.metadata.bits;
  reordering = option_map reordering_of s.reordering;
}

-- a table, or that there is none
abbrev pub or_absent : {A : Type 0} → DataTable → Option A → Result A DataError
or_absent table (Some found) = Ok found
or_absent table None = Err (record { table = table; kind = Absent })

-- these tables, whatever the request
abbrev pub loads_of : CollatorTables → Loads
loads_of all = record {
  root = Ok all.tables.root;
  jamo = Ok all.tables.jamo;
  special = Ok all.special;
  metadata = λ r. Ok all.bits;
  tailoring = λ r. or_absent Tailoring all.tables.tailoring;
  reordering = λ r. or_absent Reordering all.reordering;
  diacritics = λ r. Ok all.tables.diacritics;
}
