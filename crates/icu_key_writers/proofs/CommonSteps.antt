-- Many common weights at once.
use Rattle.std.proofs.Common.{◌≡◌, ℕ, zero, suc, ◌+◌, ◌-◌, ◌<◌, List, [], ◌∷◌, ◌++◌, refl, ap, ◌∙◌, arith, replicate}
use Rattle.icu_order_levels.specs.declared.run_bytes.RunBytes.{RunBytes}
use Rattle.icu_order_levels.specs.Runs.{level_bytes}
use Rattle.icu_order_levels.proofs.LevelOrder.{level_common}
use Rattle.icu_key_writers.proofs.RunSteps.{full_level}

-- they are counted
pub commons_counted : (r : RunBytes) (spell : ℕ → List ℕ) (n m k : ℕ) (ws : List ℕ) → k ≡ n + m
    → level_bytes r spell n (replicate m r.common ++ ws) ≡ level_bytes r spell k ws
commons_counted r spell n zero k ws e = ap (λ i. level_bytes r spell i ws) (omega arith)
commons_counted r spell n (suc m) k ws e =
    level_common r spell n r.common (replicate m r.common ++ ws) refl ∙ commons_counted r spell (suc n) m k ws (omega arith)

-- a full count of more than that many is its middle byte
pub full_taken : (r : RunBytes) (spell : ℕ → List ℕ) (n m : ℕ) (ws : List ℕ) → 0 < r.count → n ≡ r.count + m → 0 < m
    → level_bytes r spell n ws ≡ (r.middle ∷ []) ++ level_bytes r spell m ws
full_taken r spell n zero ws h e l = absurd (omega (arith, l))
full_taken r spell n (suc k) ws h e l = ap (λ i. level_bytes r spell i ws) (omega arith) ∙ full_level r spell k (r.count + k) ws h refl

-- common weights that are counted, and more of them
pub commons_joined : (k n m : ℕ) (ws : List ℕ) → replicate n k ++ (replicate m k ++ ws) ≡ replicate (n + m) k ++ ws
commons_joined k zero m ws = ap (λ i. replicate i k ++ ws) (omega arith)
commons_joined k (suc n) m ws =
    let one : suc (n + m) ≡ suc n + m = omega arith in
    ap (λ l. k ∷ l) (commons_joined k n m ws) ∙ ap (λ i. replicate i k ++ ws) one

-- the first of some
pub commons_first : (k n : ℕ) (ws : List ℕ) → 0 < n → replicate n k ++ ws ≡ k ∷ (replicate (n - 1) k ++ ws)
commons_first k zero ws h = absurd (omega (arith, h))
commons_first k (suc n) ws h = ap (λ i. k ∷ (replicate i k ++ ws)) (omega arith)

-- none of them
pub commons_none : (k n : ℕ) (ws : List ℕ) → n ≡ 0 → replicate n k ++ ws ≡ ws
commons_none k zero ws e = refl
commons_none k (suc n) ws e = absurd (omega (arith, e))
