-- The conditions on two reachable elements.
use Rattle.std.specs.Prelude.{ℕ, ◌≡◌, ◌≢◌, ◌<◌, ◌⊎◌, List, IsTrue}
use Rattle.icu_order_levels.specs.WeightBytes.{weight_bytes}
use Rattle.icu_order_levels.specs.ListOrder.{IsBeginning}
use Rattle.icu_table_entries.specs.Elements.{Element}
use Rattle.icu_table_entries.specs.ElementConditions.{tertiary_of}
use Rattle.icu_table_provider.specs.Reorderings.{lead_byte}
use Rattle.icu_table_provider.specs.SpecialPrimaries.{is_compressible}
use Rattle.icu_table_provider.specs.declared.well_formed.condition.PairCondition.{PairCondition}
use Rattle.icu_table_provider.specs.declared.well_formed.condition.PairCondition.TheVariants.{TertiaryElementWeights, Primaries, Secondaries, Tertiaries, Compression}
use Rattle.icu_table_provider.specs.CollatorTables.{CollatorTables, reorder}
use Rattle.icu_table_provider.specs.well_formed.ElementConditions.{is_tertiary_element}

-- the first of two different weights isn't written as a beginning of the second (UTS #10, "Large Weight Values")
abbrev pub BeginsNot : (ℕ → List ℕ) → ℕ → ℕ → Type 0
BeginsNot spell v w = v ≢ 0 → w ≢ 0 → v ≢ w → IsBeginning (spell v) (spell w) → ⊥

-- one of two weights of four bytes is written as a beginning of the other
abbrev pub AreOverlapping : ℕ → ℕ → Type 0
AreOverlapping v w = IsBeginning (weight_bytes 4 v) (weight_bytes 4 w) ⊎ IsBeginning (weight_bytes 4 w) (weight_bytes 4 v)

-- two primary weights that share a lead byte after reordering have lead bytes that compress alike
abbrev pub PairCompressesAlike : CollatorTables → ℕ → ℕ → Type 0
PairCompressesAlike all p q =
    p ≢ 0 → q ≢ 0 → lead_byte (reorder all p) ≡ lead_byte (reorder all q)
    → is_compressible all.special (lead_byte p) ≡ is_compressible all.special (lead_byte q)

-- what each condition asks of two elements
abbrev pub PairMeets : PairCondition → CollatorTables → Element → Element → Type 0
PairMeets TertiaryElementWeights all x y = IsTrue (is_tertiary_element x) → y.secondary ≢ 0 → tertiary_of y < tertiary_of x
PairMeets Primaries all x y = BeginsNot (λ p. weight_bytes 4 (reorder all p)) x.primary y.primary
PairMeets Secondaries all x y = BeginsNot (weight_bytes 2) x.secondary y.secondary
PairMeets Tertiaries all x y = BeginsNot (weight_bytes 2) (tertiary_of x) (tertiary_of y)
PairMeets Compression all x y = PairCompressesAlike all x.primary y.primary
