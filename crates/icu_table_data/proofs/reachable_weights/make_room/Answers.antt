use Rattle.std.proofs.Common.{ℕ, List, sym, subst}
use Rattle.std.specs.Prelude.{◌↔◌, IsPermutation}
use Rattle.std.specs.List.{Contains}
use Rattle.std.proofs.lemmas.List.Sorted.{Contains-permutation, IsPermutation-sym}
use Rattle.icu_table_data.proofs.reachable_weights.make_room.Goals as goal

through : (old sorted new : List ℕ) → IsPermutation old sorted → ((w : ℕ) → Contains new w ↔ Contains sorted w) → (w : ℕ) → Contains new w ↔ Contains old w
through old sorted new moved same w = (
  λ h. Contains-permutation _ _ w (IsPermutation-sym _ _ moved) ((same w).0 h),
  λ h. (same w).1 (Contains-permutation _ _ w moved h),
)

pub returns-in_ok-reserve : goal.returns-in_ok-reserve
returns-in_ok-reserve c =
    subst (λ (ws : List ℕ). (w : ℕ) → Contains ws w ↔ Contains c.args.weights.now.items w) (sym c.reserve.ensures.items)
    (through _ _ _ c.sort.ensures.permutation c.sort_and_dedup.ensures.members)

pub returns-else-capacity-len : goal.returns-else-capacity-len
returns-else-capacity-len c = through _ _ _ c.sort.ensures.permutation c.sort_and_dedup.ensures.members
