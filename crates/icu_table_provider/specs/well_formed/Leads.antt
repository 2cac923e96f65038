-- Where a reordering takes the lead bytes of primary weights (UTS #35 part 5, "Collation Reordering").
use Rattle.std.specs.Prelude.{ℕ, ◌/◌, ◌^◌, ◌<◌, ◌≡◌, Bool, ◌&&◌, nat_le}
use Rattle.icu_table_provider.specs.Reorderings.{Reordering, lead_byte, reordered}

-- the lead byte that a weight has after reordering
abbrev pub reordered_lead : Reordering → ℕ → ℕ
reordered_lead r p = lead_byte (reordered r p)

-- the reordering takes every primary weight with lead byte b to lead byte d
abbrev pub TakesLead : Reordering → ℕ → ℕ → Type 0
TakesLead r b d = (p : ℕ) → p < 2 ^ 32 → lead_byte p ≡ b → reordered_lead r p ≡ d

-- it takes those there whose two highest bytes are the number h
abbrev pub TakesBlock : Reordering → ℕ → ℕ → Type 0
TakesBlock r h d = (p : ℕ) → p < 2 ^ 32 → p / 0x10000 ≡ h → reordered_lead r p ≡ d

-- the lead bytes between the separator's, 02, and that of weights above all others, FF (UTS #35 part 5, "Root
-- Collation")
abbrev pub is_middle : ℕ → Bool
is_middle lead = nat_le 3 lead && nat_le lead 0xFE
