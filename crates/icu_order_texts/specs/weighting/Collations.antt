-- What texts are collated by: a collation is tables and settings together.
use Rattle.icu_options.specs.Settings.{Settings}
use Rattle.icu_table_provider.specs.CollatorTables.{CollatorTables}

-- the tables that a text is collated by, and the settings
pub record Collation : Type 0 where
  pub tables : CollatorTables
  pub settings : Settings
