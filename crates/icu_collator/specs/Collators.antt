-- What a collator is asked for, and what it has.
use Rattle.std.specs.Prelude.{Result, option_map}
use Rattle.icu_options.specs.Settings.{Settings}
use Rattle.icu_options.specs.FlaggedSettings.{values_of}
use Rattle.icu_options.specs.declared.options.CollatorPreferences.{CollatorPreferences}
use Rattle.icu_table_entries.specs.declared.error.DataError.{DataError}
use Rattle.icu_table_provider.specs.Loads.{Loads}
use Rattle.icu_table_provider.specs.Requests.{Request}
use Rattle.icu_table_provider.specs.well_formed.Checked.{checked_tables}
use Rattle.icu_table_provider.specs.CollatorTables.{CollatorTables}
use Rattle.icu_table_provider.specs.LoadedTables.{loaded_tables}
use Rattle.icu_order_texts.specs.weighting.Collations.{Collation}
use Rattle.icu_order_texts.specs.weighting.CheckedCollations.{collation_of}
use Rattle.icu_collator.specs.declared.collator.Collator.{Collator}
use Rattle.icu_collator.specs.declared.collator.CollatorBorrowed.{CollatorBorrowed}

-- ---- what is asked for

-- the locale and the type of the preferences
abbrev pub request_in : CollatorPreferences → Request
request_in p = record { locale = p.locale.now; collation_type = option_map (λ t. t.now) p.collation_type }

-- the tables that a provider returns for them, or the first error that no further request mends
abbrev pub loaded_for : Loads → CollatorPreferences → Result CollatorTables DataError
loaded_for loads preferences = loaded_tables loads (request_in preferences)

-- ---- what a collator has

-- all tables together
abbrev pub tables_kept : Collator → CollatorTables
tables_kept c = checked_tables c.tables

-- the merged settings
abbrev pub settings_kept : Collator → Settings
settings_kept c = values_of c.settings

-- tables and settings as one
abbrev pub collation_kept : Collator → Collation
collation_kept c = collation_of c.tables c.settings

-- all tables of a collator that borrows them
abbrev pub tables_borrowed : CollatorBorrowed → CollatorTables
tables_borrowed c = checked_tables c.tables.now

-- the merged settings of one that borrows its tables
abbrev pub settings_borrowed : CollatorBorrowed → Settings
settings_borrowed c = values_of c.settings

-- tables and settings of one that borrows its tables, as one
abbrev pub collation_borrowed : CollatorBorrowed → Collation
collation_borrowed c = collation_of c.tables.now c.settings
