-- Common weights are written as one run, however many they are.
use Rattle.std.proofs.Common.{◌≡◌, ◌≢◌, ℕ, zero, suc, ◌+◌, List, ◌∷◌, ◌++◌, refl, ap, ◌∙◌, replicate, arith}
use Rattle.icu_order_levels.specs.declared.run_bytes.RunBytes.{RunBytes}
use Rattle.icu_order_levels.specs.Runs.{run_before_less, run_before, level_bytes}
use Rattle.icu_order_levels.proofs.LevelOrder.{level_common, level_other}

module _ (r : RunBytes) (spell : ℕ → List ℕ) where
  -- n common weights after k of them are n + k of them
  counted : (n k : ℕ) (ws : List ℕ) → level_bytes r spell k (replicate n r.common ++ ws) ≡ level_bytes r spell (n + k) ws
  counted zero k ws = ap (λ z. level_bytes r spell z ws) (omega arith)
  counted (suc n) k ws =
      level_common r spell k r.common (replicate n r.common ++ ws) refl
      ∙ (counted n (suc k) ws ∙ ap (λ z. level_bytes r spell z ws) (omega arith))

  pub maximal_run : (n w : ℕ) (ws : List ℕ) → w ≢ r.common → level_bytes r spell 0 (replicate n r.common ++ w ∷ ws)
      ≡ run_before r n w ++ (spell w ++ level_bytes r spell 0 ws)
  maximal_run n w ws e = counted n 0 (w ∷ ws) ∙ (ap (λ z. level_bytes r spell z (w ∷ ws)) (omega arith) ∙ level_other r spell n w ws e)

  pub last_run : (n : ℕ) → level_bytes r spell 0 (replicate n r.common) ≡ run_before_less r n
  last_run zero = refl
  last_run (suc n) = level_common r spell 0 r.common (replicate n r.common) refl ∙ (rest n 1 ∙ ap (run_before_less r) one_more)
    where
      one_more : n + 1 ≡ suc n
      one_more = omega arith

      rest : (n k : ℕ) → level_bytes r spell k (replicate n r.common) ≡ run_before_less r (n + k)
      rest zero k = ap (run_before_less r) (omega arith)
      rest (suc n) k = level_common r spell k r.common (replicate n r.common) refl ∙ (rest n (suc k) ∙ ap (run_before_less r) (omega arith))
