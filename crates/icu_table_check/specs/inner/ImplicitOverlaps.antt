-- Primary weights of tables that begin an implicit weight (UTS #10, "Implicit Weights").
use Rattle.std.specs.Prelude.{ℕ, ◌≡◌, ◌≢◌, Bool, true, false}
use Rattle.icu_table_entries.specs.declared.error.DataTable.{DataTable}
use Rattle.icu_order_levels.specs.ListOrder.{IsBeginning}
use Rattle.icu_table_entries.specs.declared.entry.EntryKind.TheVariants.{Implicit}
use Rattle.icu_table_entries.specs.Entries.{kind_of}
use Rattle.icu_table_entries.specs.Weights.{implicit_weight}
use Rattle.icu_table_data.specs.Data.{Data}
use Rattle.icu_table_provider.specs.Tables.{Tables}
use Rattle.icu_table_check.specs.declared.check.implicit_overlaps.ImplicitClash.{ImplicitClash}
use Rattle.icu_table_check.specs.declared.check.weights.ComparedLevel.TheVariants.{Primary}
use Rattle.icu_table_check.specs.declared.check.weights.WeightList.TheVariants.{Primaries}
use Rattle.icu_table_provider.specs.CollatorTables.{CollatorTables}
use Rattle.icu_table_provider.specs.well_formed.ReachableElements.{IsReachableBy}
use Rattle.icu_table_check.specs.inner.ComparedLevels.{bytes_at}
use Rattle.icu_table_check.specs.inner.PairViolations.{IsListedWeight}

-- an entry for implicit weights
unfoldable pub is_for_implicit : ℕ → Bool
is_for_implicit e = elim (kind_of e) [ Implicit ↦ true | _ ↦ false ]

-- an entry for the implicit weight of the character is reachable by the table
pub record IsImplicitBy (table : DataTable) (tables : Tables) (c : ℕ) : Type 0 where
  pub home : Data
  pub entry : ℕ
  pub reachable : IsReachableBy table tables home c entry
  pub is : kind_of entry ≡ Implicit

-- a primary weight of the tables that begins another weight, which is reachable as an implicit one
pub record IsImplicitClash (all : CollatorTables) (clash : ImplicitClash) : Type 0 where
  pub listed : IsListedWeight Primaries all.tables clash.primary
  pub char : ℕ
  pub reachable : IsImplicitBy clash.table all.tables char
  pub is : clash.implicit ≡ implicit_weight char
  pub different : clash.primary ≢ clash.implicit
  pub begins : IsBeginning (bytes_at Primary all clash.primary) (bytes_at Primary all clash.implicit)
