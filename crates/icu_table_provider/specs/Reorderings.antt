-- Primary weights under a reordering of scripts (UTS #35 part 5, "Collation Reordering").
use Rattle.std.specs.Prelude.{ℕ, ◌+◌, ◌*◌, ◌/◌, ◌%◌, Bool, not, ◌||◌, ◌==◌, nat_le, nat_lt, List, find, Some, None, if◌then◌else◌, slice_index, bit_or}

-- A new lead byte for each lead byte, where it isn't zero. Under a zero the weights with that lead byte go different
-- ways. Those from a limit on stay, and the others move by a range, in ascending order: a weight that it ends at, with
-- the distance in its low byte.
pub record Reordering : Type 0 where
  pub limit : ℕ
  pub leads : List ℕ
  pub ranges : List ℕ

-- the highest byte of a primary weight
abbrev pub lead_byte : ℕ → ℕ
lead_byte p = p / 0x1000000

-- the weight with another lead byte
abbrev pub with_lead : ℕ → ℕ → ℕ
with_lead b p = b * 0x1000000 + p % 0x1000000

-- the weight, whatever its two lowest bytes, lies below the end of the range
abbrev pub lies_below : ℕ → ℕ → Bool
lies_below p range = nat_lt (bit_or p 0xFFFF) range

-- the weight, moved by the first range that it lies below
unfoldable pub moved : List ℕ → ℕ → ℕ
moved ranges p =
    elim (find (lies_below p) ranges) [
      | Some range ↦ with_lead ((lead_byte p + range % 256) % 256) p
      | None ↦ p
    ]

-- The weight as it is compared: with the new lead byte, or, under a zero, as it stands or moved. Weights 0 and 1 stay.
unfoldable pub reordered : Reordering → ℕ → ℕ
reordered r p =
    if not (slice_index r.leads (lead_byte p) == 0) then with_lead (slice_index r.leads (lead_byte p)) p
    else if nat_le p 1 || nat_le r.limit p then p
    else moved r.ranges p
