-- Leads of which none is compressible.
use Rattle.std.proofs.Common.{◌≡◌, ℕ, ◌+◌, ◌<◌, ◌≤◌, ◌^◌, ◌/◌, ◌%◌, false, length, refl, ap, ◌∙◌, arith, ne_eqb, eq-eqb, ◌⊎◌, inl, inr}
use Rattle.std.proofs.Math.Nat.{zero-div}
use Rattle.std.proofs.lemmas.Bool.{cases_eq}
use Rattle.std.specs.Prelude.{slice_index, nat_le}
use Rattle.icu_table_entries.specs.Entries.{has_bit}
use Rattle.icu_table_provider.specs.SpecialPrimaries.{SpecialPrimaries, is_compressible}

zero_bit : (n : ℕ) → has_bit n 0 ≡ false
zero_bit n = rw (zero-div (2 ^ n)) refl

not_at_most : (b : ℕ) → b < 0x60 → nat_le 0x61 b ≡ false
not_at_most b below = grind arith

-- where there are no such numbers
pub none_without_bits : (s : SpecialPrimaries) → (length s.last ≡ 20 → ⊥) → (lead : ℕ) → lead < 0x60 → is_compressible s lead ≡ false
unfolding is_compressible
none_without_bits s none lead below = rw (ne_eqb (length s.last) 20 none, not_at_most lead below, ne_eqb lead 0xFE (omega arith)) refl

-- where the numbers with the bits of the leads below 60 have none
pub none_below : (s : SpecialPrimaries) → ((k : ℕ) → 4 ≤ k → k < 10 → slice_index s.last k ≡ 0) → (lead : ℕ) → lead < 0x60 → is_compressible s lead ≡ false
unfolding is_compressible
none_below s none lead below = by (cases_eq (length s.last) 20)
  where
    by : (length s.last ≡ 20) ⊎ (length s.last ≡ 20 → ⊥) → is_compressible s lead ≡ false
    by (inl e) = rw (eq-eqb (length s.last) 20 e) (ap (λ n. has_bit (lead % 16) n) (none (4 + lead / 16) (omega arith) (omega arith)) ∙ zero_bit (lead % 16))
    by (inr n) = none_without_bits s n lead below
