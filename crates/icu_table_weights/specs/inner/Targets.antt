-- Where a reordering takes the weights of a set, as overlaps are sought.
use Rattle.std.specs.Prelude.{ℕ, ◌/◌, ◌<◌, ◌≡◌, ◌≢◌, List, Option, IsTrue, Contains}
use Rattle.icu_order_levels.specs.ListOrder.{IsBeginning}
use Rattle.icu_order_levels.specs.WeightBytes.{weight_bytes}
use Rattle.icu_table_provider.specs.Reorderings.{Reordering, lead_byte}
use Rattle.icu_table_provider.specs.CollatorTables.{reorder_by}
use Rattle.icu_table_provider.specs.well_formed.Leads.{reordered_lead}
use Rattle.icu_table_weights.specs.WeightSets.{is_three_bytes}

-- of two weights neither begins the other, unless they are one
abbrev pub ArePrefixFree : (ℕ → List ℕ) → ℕ → ℕ → Type 0
ArePrefixFree spell v w = v ≢ w → (IsBeginning (spell v) (spell w) → ⊥) × (IsBeginning (spell w) (spell v) → ⊥)

-- a weight overlaps none of three bytes
abbrev pub IsApartFromThree : (ℕ → List ℕ) → List ℕ → ℕ → Type 0
IsApartFromThree spell ws w = (v : ℕ) → Contains ws v → IsTrue (is_three_bytes v) → ArePrefixFree spell v w

-- a weight of three bytes with a lead byte below n
pub record IsBefore (ws : List ℕ) (n w : ℕ) : Type 0 where
  pub has : Contains ws w
  pub three : IsTrue (is_three_bytes w)
  pub before : w / 0x1000000 < n

-- the targets have what the reordering makes of these weights, and no two of them become one
pub record AreMet (r : Option Reordering) (targets : List ℕ) (Done : ℕ → Type 0) : Type 0 where
  pub covers : (v : ℕ) → Done v → Contains targets (reorder_by r v)
  pub apart : (v w : ℕ) → Done v → Done w → reorder_by r v ≡ reorder_by r w → v ≡ w

-- as they are written, a weight begins none of the targets of three bytes, and none of them begins it
abbrev pub IsClear : List ℕ → ℕ → Type 0
IsClear targets w = (q : ℕ) → Contains targets q → IsTrue (is_three_bytes q)
    → (IsBeginning (weight_bytes 4 q) (weight_bytes 4 w) → ⊥) × (IsBeginning (weight_bytes 4 w) (weight_bytes 4 q) → ⊥)

-- one of the samples has the lead byte of this weight, before reordering and after it
pub record IsSampled (r : Reordering) (samples : List ℕ) (w : ℕ) : Type 0 where
  pub sample : ℕ
  pub has : Contains samples sample
  pub lead : lead_byte sample ≡ lead_byte w
  pub reordered : reordered_lead r sample ≡ reordered_lead r w
