-- The bits of the lower half of an element.
use Rattle.std.proofs.Common.{◌≡◌, ℕ, ◌+◌, ◌*◌, ◌/◌, ◌%◌, ◌^◌, ◌<◌, ◌≤◌, arith}
use Rattle.std.specs.Prelude.{bit_and}
use Rattle.std.proofs.lemmas.Nat.{and_le_r, and_mod, and_assoc}
use Rattle.std.proofs.lemmas.Nat.Bits.{and_high}
use Rattle.std.proofs.lemmas.Grind.{and_numeral}
use Rattle.icu_table_entries.specs.Elements.{tertiary_mask}

low_bits : (n : ℕ) → bit_and n tertiary_mask % 256 ≡ n % 64
low_bits n = omega (arith, and_mod n tertiary_mask 8, and_high (n % 256) 6 0)

high_bits : (n : ℕ) → bit_and n tertiary_mask / 256 ≡ n / 256 % 64
high_bits n =
    omega (arith, and_assoc 0x3F00 n tertiary_mask, and_high n 6 8, and_high (bit_and n tertiary_mask) 6 8, and_le_r n tertiary_mask)

-- the tertiary weight of a lower half
pub tertiary_bits : (n : ℕ) → bit_and n tertiary_mask ≡ n / 256 % 64 * 256 + n % 64
tertiary_bits n = omega (arith, low_bits n, high_bits n)

-- the parts of a lower half make it
pub whole_half : (l : ℕ) → l < 2 ^ 16 → bit_and l tertiary_mask + l / 2 ^ 6 % 2 ^ 2 * 0x40 + l / 2 ^ 14 * 0x4000 ≡ l
whole_half l small = omega (arith, tertiary_bits l)

module _ (t q c : ℕ) (own : bit_and t tertiary_mask ≡ t) (few : q ≤ 3) (case : c ≤ 3) where
  -- the tertiary weight is that of the lower half
  pub tertiary_of_half : bit_and (t + q * 0x40 + c * 0x4000) tertiary_mask ≡ t
  tertiary_of_half = omega (arith, tertiary_bits t, tertiary_bits (t + q * 0x40 + c * 0x4000), own, few, case)

  -- and so is the quaternary weight
  pub quaternary_of_half : (t + q * 0x40 + c * 0x4000) / 2 ^ 6 % 2 ^ 2 ≡ q
  quaternary_of_half = omega (arith, tertiary_bits t, own, few, case)
