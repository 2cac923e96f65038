-- Sets of weights in four bytes. Those of three bytes, of which there may be millions, are bits, and all others are
-- listed.
use Rattle.std.specs.Prelude.{ℕ, zero, suc, ◌/◌, ◌%◌, ◌^◌, ◌≡◌, Bool, not, ◌&&◌, ◌==◌, List, [], ◌∷◌, ◌++◌, Some, None, if◌then◌else◌, slice_index, IsTrue, Contains}
use Rattle.std.specs.Int.{bit_at}
use Rattle.std.specs.List.{list_any, slice_get}
use Rattle.std.specs.Global.{Vec}
use Rattle.icu_table_weights.specs.declared.weight_set.WeightSet.{WeightSet}

-- the weight is written with three bytes: the fourth byte is zero, and the third isn't
abbrev pub is_three_bytes : ℕ → Bool
is_three_bytes p = (p % 256 == 0) && not (p / 256 % 256 == 0)

-- the number that the second and third byte of a weight make
abbrev pub middle_bytes : ℕ → ℕ
middle_bytes p = p / 256 % 65536

-- the bit of a number is set in these words of 64 bits
abbrev pub is_marked : List ℕ → ℕ → Bool
is_marked words i = bit_at (slice_index words (i / 64)) (i % 64) == 1

-- the words of a lead byte, none where there is no page for it
unfoldable pub page_of : List (Vec ℕ) → ℕ → List ℕ
page_of pages lead = elim (slice_get pages lead) [ Some page ↦ page.items | None ↦ [] ]

-- the bit of a weight is set
abbrev pub has_weight_bit : List (Vec ℕ) → ℕ → Bool
has_weight_bit pages p = is_marked (page_of pages (p / 0x1000000)) (middle_bytes p)

-- the set has a number: one of three bytes by its bit, and any other in its list
unfoldable pub set_has : WeightSet → ℕ → Bool
set_has s p = if is_three_bytes p then has_weight_bit s.pages.items p else list_any (λ v. v == p) s.others.items

-- the numbers below n that pass a test, in ascending order
unfoldable pub numbers_below : (ℕ → Bool) → ℕ → List ℕ
numbers_below test zero = []
numbers_below test (suc n) = if test n then numbers_below test n ++ n ∷ [] else numbers_below test n

-- the weights of a set, in ascending order
abbrev pub weights_of_set : WeightSet → List ℕ
weights_of_set s = numbers_below (set_has s) (2 ^ 32)

-- a weight of three bytes with this lead byte, which the set has
pub record IsOfLead (s : WeightSet) (lead w : ℕ) : Type 0 where
  pub has : Contains (weights_of_set s) w
  pub three : IsTrue (is_three_bytes w)
  pub of_lead : w / 0x1000000 ≡ lead

-- the set has no weight of three bytes with this lead byte
abbrev pub IsEmptyLead : WeightSet → ℕ → Type 0
IsEmptyLead s lead = (w : ℕ) → IsOfLead s lead w → ⊥

-- the set has no weight of three bytes whose two highest bytes are this number
abbrev pub IsEmptyBlock : WeightSet → ℕ → Type 0
IsEmptyBlock s high = (w : ℕ) → Contains (weights_of_set s) w → IsTrue (is_three_bytes w) → w / 0x10000 ≡ high → ⊥
