-- How texts are read by checked tables.
use Rattle.std.specs.Prelude.{ℕ, Bool, Option}
use Rattle.icu_table_provider.specs.well_formed.Checked.{checked_tables}
use Rattle.icu_table_provider.specs.declared.well_formed.checked.CheckedTables.{CheckedTables}
use Rattle.icu_element_reading.specs.TextElements.{Reading}

-- how texts are read by these tables, a lead byte of numbers, and the rule for Lithuanian
abbrev pub reading_with : CheckedTables → Option ℕ → Bool → Reading
reading_with t numeric lithuanian = record { tables = (checked_tables t).tables; numeric = numeric; lithuanian = lithuanian }
