-- How texts are read, as the code has it.
use Rattle.icu_table_provider.specs.Tables.{Tables}
use Rattle.icu_element_reading.specs.declared.element_tables.ElementTables.{ElementTables}
use Rattle.icu_element_reading.specs.declared.text_reading.TextReading.{TextReading}
use Rattle.icu_table_provider.specs.well_formed.Checked.{checked_tables}
use Rattle.icu_element_reading.specs.TextElements.{Reading}

-- the tables that elements are read from
abbrev pub element_tables : ElementTables → Tables
element_tables t = (checked_tables t.tables.now).tables

-- how a text is read
abbrev pub reading_of : TextReading → Reading
reading_of r = record {
  tables = element_tables r.tables;
  numeric = r.numeric_primary;
  lithuanian = r.lithuanian_dot_above;
}
