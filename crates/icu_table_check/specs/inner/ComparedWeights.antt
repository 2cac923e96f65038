-- The weights of reachable elements that are compared with one another, and how they stand in four bytes.
use Rattle.std.specs.Prelude.{ℕ, ◌≡◌, ◌<◌, ◌+◌, ◌*◌, ◌^◌, false, ◌||◌, ◌==◌, slice_index, Option, Some, None, IsTrue, if◌then◌else◌}
use Rattle.std.specs.List.{Contains}
use Rattle.icu_table_entries.specs.declared.error.DataTable.{DataTable}
use Rattle.icu_table_entries.specs.declared.error.DataTable.TheVariants.{Diacritics}
use Rattle.icu_table_provider.specs.Diacritics.{is_replaced_index}
use Rattle.icu_table_entries.specs.Elements.{Element, common, of_secondary}
use Rattle.icu_table_entries.specs.ElementConditions.{tertiary_of}
use Rattle.icu_table_data.specs.Final.{final_elements}
use Rattle.icu_table_data.specs.Reachable.{reachable_from}
use Rattle.icu_table_data.specs.CollectedWeights.{is_stated, IsWeightAmong}
pub use Rattle.icu_table_data.specs.CollectedWeights.{Adds}
use Rattle.icu_table_data.specs.Data.{Data, homed}
use Rattle.icu_table_provider.specs.Tables.{Tables, jamo_base}
use Rattle.icu_table_check.specs.declared.check.weights.WeightList.{WeightList}
use Rattle.icu_table_check.specs.declared.check.weights.WeightList.TheVariants.{Primaries, Secondaries, Tertiaries, TertiaryElements, WithSecondary}
use Rattle.icu_table_provider.specs.CollatorTables.{CollatorTables}
use Rattle.icu_table_provider.specs.well_formed.ElementConditions.{is_tertiary_element}
use Rattle.icu_table_provider.specs.well_formed.ReachableElements.{IsReachableBy, IsOfReachableDiacritic}

-- A weight of two bytes with two zero bytes after it. Zero is none; the common weight needs no comparison, since its
-- lead byte is its alone.
abbrev pub left_aligned : ℕ → Option ℕ
left_aligned w = if w == 0 || w == common then None else Some (w * 2 ^ 16)

-- a primary weight, where it is one
abbrev pub nonzero : ℕ → Option ℕ
nonzero p = if p == 0 then None else Some p

-- a tertiary weight that is neither zero nor the common one
abbrev pub uncommon : ℕ → Option ℕ
uncommon t = if t == 0 || t == common then None else Some t

-- the weight of an element that is compared
unfoldable pub compared_weight : WeightList → Element → Option ℕ
compared_weight Primaries x = nonzero x.primary
compared_weight Secondaries x = left_aligned x.secondary
compared_weight Tertiaries x = left_aligned (tertiary_of x)
compared_weight TertiaryElements x = if is_tertiary_element x then Some (tertiary_of x) else None
compared_weight WithSecondary x = if x.secondary == 0 then None else uncommon (tertiary_of x)

-- an element that a table states for an entry that is reachable by it
pub record IsReadOfEntry (table : DataTable) (tables : Tables) (x : Element) : Type 0 where
  pub home : Data
  pub char : ℕ
  pub entry : ℕ
  pub reachable : IsReachableBy table tables home char entry
  pub stated : IsTrue (is_stated home char entry)
  pub member : Contains (final_elements (homed home entry) char) x

-- an element that is reachable by the table, or that of a diacritic
abbrev pub IsReadBy : DataTable → Tables → Element → Type 0
IsReadBy Diacritics tables x = IsOfReachableDiacritic tables.diacritics x
IsReadBy table tables x = IsReadOfEntry table tables x

-- a weight of such an element
pub record IsWeightBy (list : WeightList) (table : DataTable) (tables : Tables) (w : ℕ) : Type 0 where
  pub x : Element
  pub read : IsReadBy table tables x
  pub weighs : compared_weight list x ≡ Some w

-- ---- the weights that a list comes to hold

-- the weight is P at a place before the n-th
pub record IsBelow (P : ℕ → ℕ → Type 0) (n w : ℕ) : Type 0 where
  pub place : ℕ
  pub below : place < n
  pub is : P place w

-- a weight of what is reachable with the conjoining jamo at a place of the jamo table
abbrev pub IsJamoWeight : WeightList → CollatorTables → ℕ → ℕ → Type 0
IsJamoWeight list all place w =
    IsWeightAmong (compared_weight list) all.tables.root (jamo_base + place) (reachable_from all.tables.root (slice_index all.tables.jamo place)) w

-- the weight of the diacritic at a place
pub record IsDiacriticWeight (list : WeightList) (all : CollatorTables) (place w : ℕ) : Type 0 where
  pub kept : is_replaced_index place ≡ false
  pub weighs : compared_weight list (of_secondary (slice_index all.tables.diacritics place)) ≡ Some w
