-- The bytes of quaternaries that are not common.
use Rattle.std.proofs.Common.{◌≡◌, ℕ, ◌+◌, ◌-◌, ◌<◌, ◌≤◌, ◌^◌, [], ◌∷◌, refl, ap, ◌∙◌, arith}
use Rattle.std.proofs.lemmas.Bool.{lt-ltb, le-ltb}
use Rattle.icu_order_levels.specs.WeightBytes.{weight_bytes}
use Rattle.icu_order_levels.specs.Primaries.{lead}
use Rattle.icu_order_levels.specs.Quaternaries.{quaternary_bytes, shifted_bytes}

pub bits_spelled : (q : ℕ) → 0 < q → quaternary_bytes (2 ^ 32 + q) ≡ (0xFC + q) ∷ []
bits_spelled q l = rw (lt-ltb (2 ^ 32) (2 ^ 32 + q) (omega arith)) (ap (λ x. x ∷ []) (difference q))
  where
    difference : (q : ℕ) → 0xFC + (2 ^ 32 + q) - 2 ^ 32 ≡ 0xFC + q
    difference q = omega arith

shifted_spelled : (p : ℕ) → p < 2 ^ 32 → quaternary_bytes p ≡ shifted_bytes p
shifted_spelled p l = rw (le-ltb (2 ^ 32) p (omega arith)) refl

pub low_spelled : (p : ℕ) → p < 0x1B000000 → quaternary_bytes p ≡ weight_bytes 4 p
low_spelled p l = shifted_spelled p (omega arith) ∙ rw (lt-ltb (lead p) 0x1B (omega arith)) refl

pub high_spelled : (p : ℕ) → 0x1B000000 ≤ p → p < 2 ^ 32 → quaternary_bytes p ≡ 0x1B ∷ weight_bytes 4 p
high_spelled p g l = shifted_spelled p l ∙ rw (le-ltb (lead p) 0x1B (omega arith)) refl
