-- What a file of tables says.
use Rattle.std.specs.Prelude.{ℕ, List}
use Rattle.icu_table_provider.specs.CollatorTables.{CollatorTables}
use Rattle.icu_table_files.specs.fingerprint.FingerprintForms.{StoredTables, tables_stored}

-- the tables of a collation, with the tag of the locale and the versions of CLDR and of Unicode that they were made
-- from, each a text in UTF-8, empty where it isn't known
pub record FileContents : Type 0 where
  pub tag : List ℕ
  pub cldr : List ℕ
  pub unicode : List ℕ
  pub tables : CollatorTables

-- what a file says, with its tables as they are stored
pub record StoredContents : Type 0 where
  pub tag : List ℕ
  pub cldr : List ℕ
  pub unicode : List ℕ
  pub tables : StoredTables

-- what they say
abbrev pub contents_stored : StoredContents → FileContents
contents_stored s = record { tag = s.tag; cldr = s.cldr; unicode = s.unicode; tables = tables_stored s.tables }
