-- Feeding a level that counts runs.
use Rattle.std.proofs.Common.{◌≡◌, ℕ, List, ◌∷◌, ◌++◌, sym, ap, ◌∙◌, append_assoc, subst, replicate, Result, Ok, Err, OnOk}
use Rattle.icu_order_levels.specs.declared.run_bytes.RunBytes.{RunBytes}
use Rattle.icu_order_levels.specs.Runs.{level_bytes}
use Rattle.icu_key_writers.specs.Sinks.{SinkEffects}
use Rattle.icu_key_writers.specs.Writes.{Writes, WriteFails, Brings, Feeds}
use Rattle.icu_key_writers.proofs.Writing.{fails_after}

module _ {X St F E : Type 0} (effects : SinkEffects X St F E) where
  -- the same weight under another name
  pub feeds_weight : (x y : X) (s t : St) (r : RunBytes) (spell : ℕ → List ℕ) (n m v w : ℕ) (result : Result Unit E) → v ≡ w
      → Feeds effects x s (λ ws. level_bytes r spell n (w ∷ ws)) (level_bytes r spell m) result y t
      → Feeds effects x s (λ ws. level_bytes r spell n (v ∷ ws)) (level_bytes r spell m) result y t
  feeds_weight x y s t r spell n m v w result e f =
      subst (λ (u : ℕ). Feeds effects x s (λ ws. level_bytes r spell n (u ∷ ws)) (level_bytes r spell m) result y t) (sym e) f

  -- and the same run bytes
  pub feeds_runs : (x y : X) (s t : St) (q r : RunBytes) (spell : ℕ → List ℕ) (n m v w : ℕ) (result : Result Unit E) → q ≡ r → v ≡ w
      → Feeds effects x s (λ ws. level_bytes r spell n (w ∷ ws)) (level_bytes r spell m) result y t
      → Feeds effects x s (λ ws. level_bytes q spell n (v ∷ ws)) (level_bytes q spell m) result y t
  feeds_runs x y s t q r spell n m v w result d e f =
      subst (λ (p : RunBytes). Feeds effects x s (λ ws. level_bytes p spell n (v ∷ ws)) (level_bytes p spell m) result y t) (sym d)
      (feeds_weight x y s t r spell n m v w result e f)

  -- and many common weights
  pub feeds_commons : (x y : X) (s t : St) (q r : RunBytes) (spell : ℕ → List ℕ) (n m more : ℕ) (result : Result Unit E) → q ≡ r
      → Feeds effects x s (λ ws. level_bytes r spell n (replicate more r.common ++ ws)) (level_bytes r spell m) result y t
      → Feeds effects x s (λ ws. level_bytes q spell n (replicate more q.common ++ ws)) (level_bytes q spell m) result y t
  feeds_commons x y s t q r spell n m more result d f =
      subst (λ (p : RunBytes). Feeds effects x s (λ ws. level_bytes p spell n (replicate more p.common ++ ws)) (level_bytes p spell m) result y t) (sym d) f

  pub writes_runs : (x y : X) (s t : St) (q r : RunBytes) (spell : ℕ → List ℕ) (n : ℕ) (ws : List ℕ) (result : Result Unit E) → q ≡ r
      → Writes effects x s (level_bytes r spell n ws) result y t → Writes effects x s (level_bytes q spell n ws) result y t
  writes_runs x y s t q r spell n ws result d f =
      subst (λ (p : RunBytes). Writes effects x s (level_bytes p spell n ws) result y t) (sym d) f

  -- a weight after common ones, at the front of a level
  after_commons : (x y z : X) (s t u : St) (r : RunBytes) (spell : ℕ → List ℕ) (more n k m w : ℕ) (result : Result Unit E)
      → ((y z : X) (t u : St) (b c : List ℕ) → effects.took x s b y t → effects.took y t c z u → effects.took x s (b ++ c) z u)
      → Brings effects x s (λ ws. level_bytes r spell n (replicate more r.common ++ ws)) (level_bytes r spell k) y t
      → Feeds effects y t (λ ws. level_bytes r spell k (w ∷ ws)) (level_bytes r spell m) result z u → OnOk result (m ≡ 0)
      → Feeds effects x s (λ ws. level_bytes r spell n (replicate more r.common ++ (w ∷ ws))) (level_bytes r spell 0) result z u
  after_commons x y z s t u r spell more n k m w (Ok v) both p f e = record {
    front = p.front ++ f.front;
    taken = both y z t u p.front f.front p.taken f.taken;
    leaves = λ ws. p.leaves (w ∷ ws) ∙ (ap (λ l. p.front ++ l) (f.leaves ws ∙ ap (λ (i : ℕ). f.front ++ level_bytes r spell i ws) e)
        ∙ sym (append_assoc p.front f.front (level_bytes r spell 0 ws)));
  }
  after_commons x y z s t u r spell more n k m w (Err d) both p f e = λ ws.
      rw (p.leaves (w ∷ ws)) (fails_after effects x y z s t u p.front (level_bytes r spell k (w ∷ ws)) d both p.taken (f ws))

  pub feeds_after_commons : (x y z : X) (s t u : St) (q r : RunBytes) (spell : ℕ → List ℕ) (more n k m v w : ℕ) (result : Result Unit E)
      → q ≡ r → n ≡ 0 → v ≡ w
      → ((y z : X) (t u : St) (b c : List ℕ) → effects.took x s b y t → effects.took y t c z u → effects.took x s (b ++ c) z u)
      → Brings effects x s (λ ws. level_bytes r spell n (replicate more r.common ++ ws)) (level_bytes r spell k) y t
      → Feeds effects y t (λ ws. level_bytes r spell k (w ∷ ws)) (level_bytes r spell m) result z u → OnOk result (m ≡ 0)
      → Feeds effects x s (λ ws. level_bytes q spell 0 (replicate more q.common ++ (v ∷ ws))) (level_bytes q spell 0) result z u
  feeds_after_commons x y z s t u q r spell more n k m v w result d a b both p f e =
      subst (λ (i : RunBytes). Feeds effects x s (λ ws. level_bytes i spell 0 (replicate more i.common ++ (v ∷ ws))) (level_bytes i spell 0) result z u) (sym d)
      (subst (λ (j : ℕ). Feeds effects x s (λ ws. level_bytes r spell 0 (replicate more r.common ++ (j ∷ ws))) (level_bytes r spell 0) result z u) (sym b)
      (subst (λ (i : ℕ). Feeds effects x s (λ ws. level_bytes r spell i (replicate more r.common ++ (w ∷ ws))) (level_bytes r spell 0) result z u) a
      (after_commons x y z s t u r spell more n k m w result both p f e)))

  -- where the common ones were not all written
  pub commons_fail : (x y : X) (s t : St) (q r : RunBytes) (spell : ℕ → List ℕ) (more n v : ℕ) (e : E) → q ≡ r → n ≡ 0
      → ((ws : List ℕ) → WriteFails effects x s (level_bytes r spell n (replicate more r.common ++ ws)) e y t)
      → (ws : List ℕ) → WriteFails effects x s (level_bytes q spell 0 (replicate more q.common ++ (v ∷ ws))) e y t
  commons_fail x y s t q r spell more n v e d a f ws =
      subst (λ (i : RunBytes). WriteFails effects x s (level_bytes i spell 0 (replicate more i.common ++ (v ∷ ws))) e y t) (sym d)
      (subst (λ (i : ℕ). WriteFails effects x s (level_bytes r spell i (replicate more r.common ++ (v ∷ ws))) e y t) a (f (v ∷ ws)))
