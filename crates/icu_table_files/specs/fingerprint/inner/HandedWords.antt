-- What a hasher was handed.
use Rattle.std.specs.Prelude.{◌≡◌, ℕ, List, ◌++◌, Option, option_map}
use Rattle.icu_table_data.specs.Data.{Data}
use Rattle.icu_table_provider.specs.CollatorTables.{CollatorTables}
use Rattle.sha2.specs.Hashers.{Holds256}
use Rattle.sha2.specs.declared.Sha256.{Sha256}
use Rattle.icu_table_files.specs.fingerprint.FingerprintForms.{Fit, StoredData, StoredTables, bytes_of, data_stored, data_words, optional, table_words, tables_stored}

-- from one state of a hasher to another, it was handed these words
pub record HandsWords (old new : Sha256) (words : List ℕ) : Type 0 where
  pub handed : (m : List ℕ) → Holds256 old m → Holds256 new (m ++ bytes_of words)
  pub fits : Fit words

-- it was handed the words of a root or a tailoring that says this
pub record HandsData (old new : Sha256) (says : Data) : Type 0 where
  pub stored : StoredData
  pub is : data_stored stored ≡ says
  pub hands : HandsWords old new (data_words stored)

-- it was handed the words of a tailoring that says this, if there is one
pub record HandsTailoring (old new : Sha256) (says : Option Data) : Type 0 where
  pub stored : Option StoredData
  pub is : option_map data_stored stored ≡ says
  pub hands : HandsWords old new (optional data_words stored)

-- it was handed the words of tables that say this
pub record HandsTables (old new : Sha256) (says : CollatorTables) : Type 0 where
  pub stored : StoredTables
  pub is : tables_stored stored ≡ says
  pub hands : HandsWords old new (table_words stored)
