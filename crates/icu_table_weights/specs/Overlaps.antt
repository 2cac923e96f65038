-- Weights of which one is written as a beginning of another (UTS #10, "Large Weight Values"). Weights of all levels
-- stand in four bytes: one of two bytes is moved up by two, which leaves the bytes that are written
use Rattle.std.specs.Prelude.{ℕ, ◌+◌, ◌≢◌, List, Option, slice_index, Contains}
use Rattle.icu_order_levels.specs.ListOrder.{IsBeginning}
use Rattle.icu_order_levels.specs.WeightBytes.{weight_bytes}
use Rattle.icu_table_provider.specs.Reorderings.{Reordering}
use Rattle.icu_table_provider.specs.CollatorTables.{reorder_by}

-- the bytes of a weight as a reordering of scripts leaves it, where there is one
abbrev pub written_bytes : Option Reordering → ℕ → List ℕ
written_bytes reordering w = weight_bytes 4 (reorder_by reordering w)

-- the weight at place k is written as a beginning of the next one
abbrev pub NeighbourBegins : (ℕ → List ℕ) → List ℕ → ℕ → Type 0
NeighbourBegins spell ws k = IsBeginning (spell (slice_index ws k)) (spell (slice_index ws (k + 1)))

-- v and w are different weights of the list, and v is written as a beginning of w
pub record Overlaps (spell : ℕ → List ℕ) (ws : List ℕ) (v w : ℕ) : Type 0 where
  pub first : Contains ws v
  pub second : Contains ws w
  pub different : v ≢ w
  pub begins : IsBeginning (spell v) (spell w)
