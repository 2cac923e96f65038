-- Slots in a tree of pairs.
use Rattle.std.specs.Prelude.{ℕ, ◌/◌, ◌%◌, ◌==◌, if◌then◌else◌}
use Rattle.icu_text_decomposition.specs.declared.slot_tree.Slot.{Slot}
use Rattle.icu_text_decomposition.specs.declared.slot_tree.SlotPair.{SlotPair}

-- the slot with a number, where even numbers stand in one half and odd ones in the other
abbrev pub pair_at : {P X : Type 0} → (X → ℕ → P) → SlotPair X → ℕ → P
pair_at at s k = if k % 2 == 0 then at s.even (k / 2) else at s.odd (k / 2)

-- one slot
abbrev pub one_at : {P : Type 0} → Slot P → ℕ → P
one_at s k = s.item
