-- The bytes of the primary level, where weights of a compressible lead drop it
-- (UTS #35 part 5, "Root Collation Data Files" on lead bytes that compress, and "Collation Reordering").
use Rattle.std.specs.Prelude.{Bool, ◌||◌, ℕ, ◌/◌, ◌%◌, ◌^◌, ◌==◌, nat_lt, if◌then◌else◌, List, [], ◌∷◌, ◌++◌}
use Rattle.icu_order_levels.specs.WeightBytes.{weight_bytes}

-- the highest of the four bytes of a primary
abbrev pub lead : ℕ → ℕ
lead w = w / 256 ^ 3

-- the three bytes below the lead
abbrev pub below_lead : ℕ → ℕ
below_lead w = w % 256 ^ 3

-- the second of the four bytes
abbrev pub second_byte : ℕ → ℕ
second_byte w = w % 256 ^ 3 / 256 ^ 2

-- How primaries are written: what reordering makes of each, and which leads, before reordering, are compressed
pub record Compression : Type 0 where
  pub reorder : ℕ → ℕ
  pub is_compressible : ℕ → Bool

-- What a weight with another lead than the dropped one writes first: 03 before a lesser lead, FF before a greater
-- one, nothing where no lead is dropped (0) and nothing before the merge separator, whose lead is 02
abbrev pub lead_change : ℕ → ℕ → List ℕ
lead_change dropped new =
    if dropped == 0 || new == 2 then [] else (if nat_lt new dropped then 0x03 ∷ [] else 0xFF ∷ [])

-- the bytes of a reordered primary after weights whose lead is dropped
abbrev pub primary_bytes : ℕ → ℕ → List ℕ
primary_bytes dropped w =
    if lead w == dropped then weight_bytes 3 (below_lead w) else lead_change dropped (lead w) ++ weight_bytes 4 w

-- the lead that is dropped after the primary w, 0 for none: whether a lead is compressible is asked before reordering
abbrev pub dropped_after : Compression → ℕ → ℕ
dropped_after c w = if c.is_compressible (lead w) then lead (c.reorder w) else 0

-- the bytes of primaries, given before reordering, after weights whose lead is dropped
abbrev pub primary_level : Compression → ℕ → List ℕ → List ℕ
primary_level c dropped [] = []
primary_level c dropped (w ∷ ws) = primary_bytes dropped (c.reorder w) ++ primary_level c (dropped_after c w) ws
