-- What a check of pairs of reachable elements goes by.
use Rattle.std.specs.Prelude.{ℕ, ◌≡◌, ◌≢◌, ◌≤◌, ◌<◌, List, Option, None, IfSome}
use Rattle.std.specs.List.{Contains}
use Rattle.icu_order_levels.specs.ListOrder.{IsBeginning}
use Rattle.icu_order_levels.specs.Premises.{IsPrefixFree}
use Rattle.icu_table_entries.specs.declared.error.DataTable.{DataTable}
use Rattle.icu_table_provider.specs.Reorderings.{lead_byte}
use Rattle.icu_table_provider.specs.SpecialPrimaries.{is_compressible}
use Rattle.icu_table_provider.specs.Tables.{Tables}
use Rattle.icu_table_check.specs.declared.violation.Violation.{Violation}
use Rattle.icu_table_check.specs.declared.check.tertiary_violations.LowPair.{LowPair}
use Rattle.icu_table_check.specs.declared.check.weights.ComparedLevel.{ComparedLevel}
use Rattle.icu_table_check.specs.declared.check.weights.ComparedLevel.TheVariants as levels
use Rattle.icu_table_check.specs.declared.check.weights.WeightList.{WeightList}
use Rattle.icu_table_check.specs.declared.check.weights.WeightList.TheVariants.{Primaries, TertiaryElements, WithSecondary}
use Rattle.icu_table_provider.specs.CollatorTables.{CollatorTables, reorder}
use Rattle.icu_table_check.specs.inner.ComparedLevels.{list_of, bytes_at}
use Rattle.icu_table_provider.specs.well_formed.WellFormedTables.{later, IsOverlapTable}
use Rattle.icu_table_check.specs.inner.Violations.{IsTrueViolation}
use Rattle.icu_table_check.specs.inner.ComparedWeights.{IsWeightBy}

-- what is found in weights: none begins another, or a true violation
pub record IsOutcome (all : CollatorTables) (IsFree : Type 0) (found : Option Violation) : Type 0 where
  pub none : found ≡ None → IsFree
  pub some : IfSome found (IsTrueViolation all)

-- all weights of a list
abbrev pub HoldsAll : WeightList → Tables → List ℕ → Type 0
HoldsAll list tables ws = (table : DataTable) (w : ℕ) → IsWeightBy list table tables w → Contains ws w

-- a weight by some table
pub record IsListedWeight (list : WeightList) (tables : Tables) (w : ℕ) : Type 0 where
  pub table : DataTable
  pub is : IsWeightBy list table tables w

-- weights by some tables, and no others
abbrev pub AreListed : WeightList → Tables → List ℕ → Type 0
AreListed list tables ws = (w : ℕ) → Contains ws w → IsListedWeight list tables w

-- all weights of a list, and no others
pub record HoldsLevel (list : WeightList) (tables : Tables) (ws : List ℕ) : Type 0 where
  pub all : HoldsAll list tables ws
  pub only : AreListed list tables ws

-- ---- overlaps

-- none of these weights of a level begins another
abbrev pub AreFree : ComparedLevel → CollatorTables → List ℕ → Type 0
AreFree level all ws = IsPrefixFree (bytes_at level all) (Contains ws)

-- none of all its weights does
pub record LevelIsFree (level : ComparedLevel) (all : CollatorTables) : Type 0 where
  pub weights : List ℕ
  pub all_held : HoldsAll (list_of level) all.tables weights
  pub free : AreFree level all weights

-- two weights of a level of which the first begins the second
pub record AreClashing (level : ComparedLevel) (all : CollatorTables) (v w : ℕ) : Type 0 where
  pub first : IsListedWeight (list_of level) all.tables v
  pub second : IsListedWeight (list_of level) all.tables w
  pub different : v ≢ w
  pub begins : IsBeginning (bytes_at level all v) (bytes_at level all w)

-- the table by which they are named, if these are theirs
abbrev pub IsClashTable : ComparedLevel → DataTable → DataTable → ℕ → ℕ → DataTable → Type 0
IsClashTable levels.Primary first second v w table = IsOverlapTable first second v w table
IsClashTable _ first second v w table = table ≡ later first second

-- ---- tertiary weights of elements without a secondary weight, and of those with one

-- a weight alone and one beside a secondary weight that isn't below it
pub record AreTooLow (alone beside : List ℕ) (pair : LowPair) : Type 0 where
  pub first : Contains alone pair.alone
  pub second : Contains beside pair.beside
  pub low : pair.alone ≤ pair.beside

-- such weights of tables
pub record IsLowPair (tables : Tables) (pair : LowPair) : Type 0 where
  pub first : IsListedWeight TertiaryElements tables pair.alone
  pub second : IsListedWeight WithSecondary tables pair.beside
  pub low : pair.alone ≤ pair.beside

-- each tertiary weight alone is greater than each beside a secondary weight
abbrev pub TertiaryElementsAreHigh : Tables → Type 0
TertiaryElementsAreHigh tables =
    (first second : DataTable) (x y : ℕ) → IsWeightBy TertiaryElements first tables x → IsWeightBy WithSecondary second tables y → y < x

-- ---- primary weights

-- of these primary weights, those that share a lead byte after reordering compress alike
abbrev pub ListCompressesAlike : CollatorTables → List ℕ → Type 0
ListCompressesAlike all ws =
    (v w : ℕ) → Contains ws v → Contains ws w → lead_byte (reorder all v) ≡ lead_byte (reorder all w)
    → is_compressible all.special (lead_byte v) ≡ is_compressible all.special (lead_byte w)

-- no primary weight begins another, and all of them compress alike
pub record PrimariesAreFree (all : CollatorTables) : Type 0 where
  pub weights : List ℕ
  pub all_held : HoldsAll Primaries all.tables weights
  pub free : AreFree levels.Primary all weights
  pub alike : ListCompressesAlike all weights
