-- Bits of the characters that go on what others begin.
use Rattle.std.proofs.Common.{◌≡◌, ℕ, zero, suc, ◌<◌, ◌*◌, ◌^◌, ◌%◌, List, [], ◌∷◌, Some, refl, arith, bit_or, w64}
use Rattle.std.specs.Prelude.{slice_get}
use Rattle.std.specs.List.{AllByRecursion}
use Rattle.std.proofs.lemmas.Nat.Bits.{bit_at_ones, bit_at_or, bit_at_set_same}
use Rattle.icu_element_facts.specs.Followers.{HasNoBit}

low : (d : ℕ) → d % 64 < 64
low d = omega arith

-- no bit is unset where all are set
pub all_set : (d : ℕ) → HasNoBit 18446744073709551615 d → ⊥
all_set d h = absurd (omega (arith, h, bit_at_ones 64 (d % 64) (low d)))

-- a bit that isn't set with others isn't set without them
pub still_unset : (a b d : ℕ) → HasNoBit (bit_or a b) d → HasNoBit a d
still_unset a b d h = omega (arith, h, bit_at_or a b (d % 64))

-- a character's own bit is set
pub own_set : (bits c : ℕ) → HasNoBit (bit_or bits (1 * 2 ^ (c % 64) % 2 ^ 64)) c → ⊥
own_set bits c h = absurd (omega (arith, h, bit_at_set_same w64 bits (c % 64) (low c)))

-- what is so of each item by its index is so of all
pub each_by_recursion : {X : Type 0} (P : X → Type 0) (xs : List X) → ((k : ℕ) (x : X) → slice_get xs k ≡ Some x → P x) → AllByRecursion P xs
each_by_recursion P [] each = tt
each_by_recursion P (x ∷ xs) each = (each zero x refl, each_by_recursion P xs (λ k y is. each (suc k) y is))
