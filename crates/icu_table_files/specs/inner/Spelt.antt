-- Bytes that spell tables.
use Rattle.std.specs.Prelude.{◌≡◌, ℕ, ◌^◌, List, Option, IfSome, option_map}
use Rattle.icu_table_data.specs.Data.{Data}
use Rattle.icu_table_provider.specs.CollatorTables.{CollatorTables}
use Rattle.icu_table_provider.specs.Reorderings.{Reordering}
use Rattle.icu_table_provider.specs.SpecialPrimaries.{IsSpecialPrimaries, SpecialPrimaries}
use Rattle.icu_table_files.specs.fingerprint.FingerprintForms.{StoredData, StoredTables, data_stored, tables_stored}
use Rattle.icu_table_files.specs.parts.SpeltParts.{AreBelow, bytes_of_parts}
use Rattle.icu_table_files.specs.FileContents.{FileContents, StoredContents, contents_stored}
use Rattle.icu_table_files.specs.TableFiles.{AreStorable, IsStorable, IsStorableData, IsStorableReordering}
use Rattle.icu_table_files.specs.TableBytes.{content_bytes, data_bytes, optional_bytes, reordering_bytes, special_bytes, table_parts}

-- a root or a tailoring that says this
pub record SpellsData (says : Data) (bytes : List ℕ) : Type 0 where
  pub stored : StoredData
  pub is : data_stored stored ≡ says
  pub storable : IsStorableData stored
  pub spelt : data_bytes stored ≡ bytes

-- a tailoring that says this, if there is one
pub record SpellsTailoring (says : Option Data) (bytes : List ℕ) : Type 0 where
  pub stored : Option StoredData
  pub is : option_map data_stored stored ≡ says
  pub storable : IfSome stored IsStorableData
  pub spelt : optional_bytes data_bytes stored ≡ bytes

-- special primary weights
pub record SpellsSpecial (says : SpecialPrimaries) (bytes : List ℕ) : Type 0 where
  pub widths : AreBelow (2 ^ 16) says.last
  pub is_special : IsSpecialPrimaries says.last says.numeric
  pub spelt : special_bytes says.numeric says.last ≡ bytes

-- a reordering
pub record SpellsPresent (says : Reordering) (bytes : List ℕ) : Type 0 where
  pub storable : IsStorableReordering says
  pub spelt : reordering_bytes says ≡ bytes

-- a reordering, if there is one
pub record SpellsReordering (says : Option Reordering) (bytes : List ℕ) : Type 0 where
  pub storable : IfSome says IsStorableReordering
  pub spelt : optional_bytes reordering_bytes says ≡ bytes

-- the parts of tables that say this
pub record SpellsTables (says : CollatorTables) (bytes : List ℕ) : Type 0 where
  pub stored : StoredTables
  pub is : tables_stored stored ≡ says
  pub storable : IsStorable stored
  pub spelt : bytes_of_parts (table_parts stored) ≡ bytes

-- a body that says this
pub record SpellsContents (says : FileContents) (bytes : List ℕ) : Type 0 where
  pub stored : StoredContents
  pub is : contents_stored stored ≡ says
  pub storable : AreStorable stored
  pub spelt : content_bytes stored ≡ bytes
