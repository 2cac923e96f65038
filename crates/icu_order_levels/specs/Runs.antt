-- A level in which the common weight is written by the length of its runs
-- (UTS #10, "Run-Length Compression").
use Rattle.std.specs.Prelude.{◌≡◌, ◌≢◌, ℕ, zero, suc, ◌+◌, ◌-◌, ◌/◌, ◌%◌, ◌<◌, ◌==◌, nat_lt, if◌then◌else◌, List, [], ◌∷◌, ◌++◌, replicate}
use Rattle.icu_order_levels.specs.declared.run_bytes.RunBytes.{RunBytes}
use Rattle.icu_order_levels.specs.ListOrder.{IsUnder, IsOver, Precedes}

-- the runs before less and before more meet in the middle byte alone
pub record AreRunBytes (r : RunBytes) : Type 0 where
  pub some : 0 < r.count
  pub to_middle : r.low + r.count ≡ r.middle + 1
  pub to_high : r.middle + r.count ≡ r.high + 1

-- The bytes of n common weights before a lesser weight or the end: a middle byte for each full count, and a last
-- byte that counts up from the low one
abbrev pub run_before_less : RunBytes → ℕ → List ℕ
run_before_less r zero = []
run_before_less r (suc m) = replicate (m / r.count) r.middle ++ (r.low + m % r.count) ∷ []

-- The bytes of n common weights before a greater weight: the last byte counts down from the high one
abbrev pub run_before_more : RunBytes → ℕ → List ℕ
run_before_more r zero = []
run_before_more r (suc m) = replicate (m / r.count) r.middle ++ (r.high - m % r.count) ∷ []

-- the bytes of a run of n common weights before the weight w
abbrev pub run_before : RunBytes → ℕ → ℕ → List ℕ
run_before r n w = if nat_lt w r.common then run_before_less r n else run_before_more r n

-- the bytes of n common weights and then ws, where `spell` writes a weight that is not common
abbrev pub level_bytes : RunBytes → (ℕ → List ℕ) → ℕ → List ℕ → List ℕ
level_bytes r spell n [] = run_before_less r n
level_bytes r spell n (w ∷ ws) =
    if w == r.common then level_bytes r spell (suc n) ws else run_before r n w ++ (spell w ++ level_bytes r spell 0 ws)

-- Weights below the common one begin between the byte that ends a list and the low byte. Those above it begin above
-- the high byte. Of two other weights the lesser precedes.
pub record IsSpelling (r : RunBytes) (end : ℕ) (spell : ℕ → List ℕ) (IsReachable : ℕ → Type 0) : Type 0 where
  pub end_below : end < r.low
  pub below : (w : ℕ) → IsReachable w → w < r.common → IsOver end (spell w) × IsUnder r.low (spell w)
  pub above : (w : ℕ) → IsReachable w → r.common < w → IsOver r.high (spell w)
  pub apart : (v w : ℕ) → IsReachable v → IsReachable w → v ≢ r.common → w ≢ r.common → v < w → Precedes (spell v) (spell w)
