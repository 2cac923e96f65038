-- The collation that checked tables and merged settings make.
use Rattle.icu_options.specs.FlaggedSettings.{FlaggedSettings, values_of}
use Rattle.icu_table_provider.specs.well_formed.Checked.{checked_tables}
use Rattle.icu_table_provider.specs.declared.well_formed.checked.CheckedTables.{CheckedTables}
use Rattle.icu_order_texts.specs.weighting.Collations.{Collation}

-- checked tables and merged settings, as one
abbrev pub collation_of : CheckedTables → FlaggedSettings → Collation
collation_of t s = record { tables = checked_tables t; settings = values_of s }
