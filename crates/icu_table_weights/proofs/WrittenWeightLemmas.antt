-- Weights as they are written: their first bytes, and those of four nonzero bytes.
use Rattle.std.proofs.Common.{◌≡◌, ℕ, zero, suc, ◌/◌, ◌%◌, ◌^◌, ◌≤◌, List, [], ◌∷◌, arith}
use Rattle.icu_order_levels.specs.ListOrder.{IsBeginning}
use Rattle.icu_order_levels.specs.WeightBytes.{before_nonzero, weight_bytes}

-- a nonzero first byte is that of what its bytes begin
head_of : (x y : ℕ) (xs ys : List ℕ) → 1 ≤ x → IsBeginning (before_nonzero x xs) (before_nonzero y ys) → x ≡ y
head_of zero y xs ys some b = absurd (omega arith)
head_of (suc x) zero [] [] some b = absurd b
head_of (suc x) zero [] (z ∷ ys) some b = b.0
head_of (suc x) (suc y) [] [] some b = b.0
head_of (suc x) (suc y) [] (z ∷ ys) some b = b.0
head_of (suc x) zero (u ∷ xs) [] some b = absurd b
head_of (suc x) zero (u ∷ xs) (z ∷ ys) some b = b.0
head_of (suc x) (suc y) (u ∷ xs) [] some b = b.0
head_of (suc x) (suc y) (u ∷ xs) (z ∷ ys) some b = b.0

pub same_first : (k v w : ℕ) → 1 ≤ v / 256 ^ k → IsBeginning (weight_bytes (suc k) v) (weight_bytes (suc k) w) → v / 256 ^ k ≡ w / 256 ^ k
same_first k v w some b = head_of (v / 256 ^ k) (w / 256 ^ k) (weight_bytes k (v % 256 ^ k)) (weight_bytes k (w % 256 ^ k)) some b

-- what follows a nonzero first byte begins what follows the other
rest_of : (x y : ℕ) (xs ys : List ℕ) → 1 ≤ x → IsBeginning (before_nonzero x xs) (before_nonzero y ys) → IsBeginning xs ys
rest_of zero y xs ys some b = absurd (omega arith)
rest_of (suc x) zero [] [] some b = tt
rest_of (suc x) zero [] (z ∷ ys) some b = tt
rest_of (suc x) (suc y) [] [] some b = tt
rest_of (suc x) (suc y) [] (z ∷ ys) some b = tt
rest_of (suc x) zero (u ∷ xs) [] some b = absurd b
rest_of (suc x) zero (u ∷ xs) (z ∷ ys) some b = b.1
rest_of (suc x) (suc y) (u ∷ xs) [] some b = absurd b.1
rest_of (suc x) (suc y) (u ∷ xs) (z ∷ ys) some b = b.1

rest_bytes : (k v w : ℕ) → 1 ≤ v / 256 ^ k → IsBeginning (weight_bytes (suc k) v) (weight_bytes (suc k) w) → IsBeginning (weight_bytes k (v % 256 ^ k)) (weight_bytes k (w % 256 ^ k))
rest_bytes k v w some b = rest_of (v / 256 ^ k) (w / 256 ^ k) (weight_bytes k (v % 256 ^ k)) (weight_bytes k (w % 256 ^ k)) some b

-- of weights without a zero byte, the bytes begin no other weight's
pub same_weight : (v w : ℕ) → 1 ≤ v / 256 ^ 3 → 1 ≤ v % 256 ^ 3 / 256 ^ 2 → 1 ≤ v % 256 ^ 3 % 256 ^ 2 / 256 ^ 1 → 1 ≤ v % 256 ^ 3 % 256 ^ 2 % 256 ^ 1 / 256 ^ 0
    → IsBeginning (weight_bytes 4 v) (weight_bytes 4 w) → v % 0x1000000 ≡ w % 0x1000000
same_weight v w a b c d begins =
    let second = rest_bytes 3 v w a begins in
    let third = rest_bytes 2 (v % 256 ^ 3) (w % 256 ^ 3) b second in
    let fourth = rest_bytes 1 (v % 256 ^ 3 % 256 ^ 2) (w % 256 ^ 3 % 256 ^ 2) c third in
    let e2 = same_first 2 (v % 256 ^ 3) (w % 256 ^ 3) b second in
    let e1 = same_first 1 (v % 256 ^ 3 % 256 ^ 2) (w % 256 ^ 3 % 256 ^ 2) c third in
    let e0 = same_first 0 (v % 256 ^ 3 % 256 ^ 2 % 256 ^ 1) (w % 256 ^ 3 % 256 ^ 2 % 256 ^ 1) d fourth in
    put_together v w e2 e1 e0
  where
    put_together : (v w : ℕ) → v % 16777216 / 65536 ≡ w % 16777216 / 65536 → v % 16777216 % 65536 / 256 ≡ w % 16777216 % 65536 / 256
        → v % 16777216 % 65536 % 256 / 1 ≡ w % 16777216 % 65536 % 256 / 1 → v % 16777216 ≡ w % 16777216
    put_together v w e2 e1 e0 = omega (arith, e2, e1, e0)
