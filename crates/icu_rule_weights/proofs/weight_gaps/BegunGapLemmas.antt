-- Which numbers are written with the bytes of another one first: those up to a last one.
use Rattle.std.proofs.Common.{◌≡◌, ◌≢◌, ℕ, ◌+◌, ◌/◌, ◌%◌, ◌^◌, ◌<◌, ◌≤◌, ◌↔◌, ◌⊎◌, inl, inr, arith}
use Rattle.std.proofs.lemmas.Bool.{cases_lt}
use Rattle.icu_order_levels.specs.ListOrder.{IsBeginning}
use Rattle.icu_order_levels.specs.WeightBytes.{weight_bytes}
use Rattle.icu_table_weights.proofs.BeginningLemmas.{Begins, digits_begin, bytes_begin, beginning_le}
use Rattle.icu_rule_weights.specs.weight_gaps.GapWeights.{IsClearBelow}

-- what is written with the bytes of v first is up to u
abbrev pub LastBegun : ℕ → ℕ → Type 0
LastBegun v u = (w : ℕ) → w < 2 ^ 32 → Begins 4 v w ↔ ((v ≤ w) × (w ≤ u))

pub four_bytes : (v : ℕ) → v < 2 ^ 32 → v % 256 ≢ 0 → LastBegun v v
four_bytes v l n w m = (
  λ h. (omega (arith, h), omega (arith, h)),
  λ h. inr (omega arith, inr (omega arith, inr (omega arith, inr (omega arith, tt)))),
)

pub three_bytes : (v : ℕ) → v < 2 ^ 32 → v % 256 ≡ 0 → v % 65536 ≢ 0 → LastBegun v (v + 255)
three_bytes v l z n w m = (
  λ h. (omega (arith, h), omega (arith, h)),
  λ h. inr (omega arith, inr (omega arith, inr (omega arith, inl (omega arith)))),
)

pub two_bytes : (v : ℕ) → v < 2 ^ 32 → v % 65536 ≡ 0 → v % 16777216 ≢ 0 → LastBegun v (v + 65535)
two_bytes v l z n w m = (
  λ h. (omega (arith, h), omega (arith, h)),
  λ h. inr (omega arith, inr (omega arith, inl (omega arith))),
)

pub one_byte : (v : ℕ) → v < 2 ^ 32 → v % 16777216 ≡ 0 → v ≢ 0 → LastBegun v (v + 16777215)
one_byte v l z n w m = (
  λ h. (omega (arith, h), omega (arith, h)),
  λ h. inr (omega arith, inl (omega arith)),
)

pub no_byte : LastBegun 0 4294967295
no_byte w m = (λ h. (omega arith, omega arith), λ h. inl (omega arith))

pub clear_from : (v u : ℕ) → v < 2 ^ 32 → v ≤ u → LastBegun v u → (w : ℕ) → w < 2 ^ 32 → IsClearBelow v w ↔ (u < w)
clear_from v u l up last w m = (λ clear. beyond clear (cases_lt u w), λ over. clear_of over)
  where
    beyond : IsClearBelow v w → (u < w) ⊎ (w ≤ u) → u < w
    beyond clear (inl over) = over
    beyond clear (inr within) = absurd (clear.begins_not (bytes_begin 4 v w ((last w m).1 (omega (arith, clear.less), within))))

    clear_of : u < w → IsClearBelow v w
    clear_of over = record {
      less = omega arith;
      begins_not = λ b. let within = (last w m).0 (digits_begin 4 v w l b) in omega (arith, within.1);
    }

pub begun_from : (v u : ℕ) → v ≤ u → u < 2 ^ 32 → LastBegun v u → IsBeginning (weight_bytes 4 v) (weight_bytes 4 u)
begun_from v u up m last = bytes_begin 4 v u ((last u m).1 (up, omega arith))
