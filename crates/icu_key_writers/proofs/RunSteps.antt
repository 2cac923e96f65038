-- Runs of common weights, one weight or one full count at a time.
use Rattle.std.proofs.Common.{◌≡◌, ◌≢◌, ℕ, suc, ◌+◌, ◌-◌, ◌/◌, ◌%◌, ◌<◌, ◌≤◌, ◌==◌, Bool, true, false, List, [], ◌∷◌, ◌++◌, sym, ap, ◌∙◌, arith, append_assoc, replicate, cond, nat_lt}
use Rattle.std.proofs.Math.Nat.{add-div_left, add-mod_left, div-eq_of_lt, mod-eq_of_lt}
use Rattle.icu_order_levels.specs.declared.run_bytes.RunBytes.{RunBytes}
use Rattle.icu_order_levels.proofs.LevelOrder.{level_other}
use Rattle.icu_order_levels.specs.Runs.{run_before_less, run_before_more, run_before, level_bytes}

first : (n m : ℕ) → n ≡ suc m → n - 1 ≡ m
first n m e = omega arith

below : (n m c : ℕ) → n ≡ suc m → n ≤ c → m < c
below n m c e l = omega arith

-- a run that is no longer than a full count has one byte
pub short_less : (r : RunBytes) (n m : ℕ) → n ≡ suc m → n ≤ r.count → (r.low + (n - 1)) ∷ [] ≡ run_before_less r n
short_less r n m e l =
    ap (λ k. (r.low + k) ∷ []) (first n m e)
    ∙ (sym (ap (λ q. replicate q r.middle ++ (r.low + m % r.count) ∷ []) (div-eq_of_lt (below n m r.count e l))
    ∙ ap (λ k. (r.low + k) ∷ []) (mod-eq_of_lt (below n m r.count e l)))
    ∙ ap (run_before_less r) (sym e))

pub short_more : (r : RunBytes) (n m : ℕ) → n ≡ suc m → n ≤ r.count → (r.high - (n - 1)) ∷ [] ≡ run_before_more r n
short_more r n m e l =
    ap (λ k. (r.high - k) ∷ []) (first n m e)
    ∙ (sym (ap (λ q. replicate q r.middle ++ (r.high - m % r.count) ∷ []) (div-eq_of_lt (below n m r.count e l))
    ∙ ap (λ k. (r.high - k) ∷ []) (mod-eq_of_lt (below n m r.count e l)))
    ∙ ap (run_before_more r) (sym e))

-- both kinds of run begin with a middle byte for a full count
quotient_step : (c k : ℕ) → 0 < c → (c + k) / c ≡ suc (k / c)
quotient_step c k h = add-div_left k h ∙ (omega arith)

remainder_step : (c k : ℕ) → 0 < c → (c + k) % c ≡ k % c
remainder_step c k h = add-mod_left c k

full_less : (r : RunBytes) (k : ℕ) → 0 < r.count → run_before_less r (suc (r.count + k)) ≡ r.middle ∷ run_before_less r (suc k)
full_less r k h =
    ap (λ q. replicate q r.middle ++ (r.low + (r.count + k) % r.count) ∷ []) (quotient_step r.count k h)
    ∙ ap (λ m. r.middle ∷ (replicate (k / r.count) r.middle ++ (r.low + m) ∷ [])) (remainder_step r.count k h)

full_more : (r : RunBytes) (k : ℕ) → 0 < r.count → run_before_more r (suc (r.count + k)) ≡ r.middle ∷ run_before_more r (suc k)
full_more r k h =
    ap (λ q. replicate q r.middle ++ (r.high - (r.count + k) % r.count) ∷ []) (quotient_step r.count k h)
    ∙ ap (λ m. r.middle ∷ (replicate (k / r.count) r.middle ++ (r.high - m) ∷ [])) (remainder_step r.count k h)

either_way : (b : Bool) (m : ℕ) (xs ys us vs : List ℕ) → xs ≡ m ∷ us → ys ≡ m ∷ vs → cond b xs ys ≡ m ∷ cond b us vs
either_way true m xs ys us vs p q = p
either_way false m xs ys us vs p q = q

-- so a level that goes on after more than a full count begins with that byte
pub full_level : (r : RunBytes) (spell : ℕ → List ℕ) (k n : ℕ) (ws : List ℕ) → 0 < r.count → n ≡ r.count + k → level_bytes r spell (suc n) ws ≡ r.middle ∷ level_bytes r spell (suc k) ws
full_level r spell k n [] h e = ap (λ m. run_before_less r (suc m)) e ∙ full_less r k h
full_level r spell k n (w ∷ ws) h e =
    either_way (w == r.common) r.middle _ _ _ _
    (full_level r spell (suc k) (suc n) ws h (omega arith))
    (ap (λ bs. bs ++ (spell w ++ level_bytes r spell 0 ws)) (either_way (nat_lt w r.common) r.middle _ _ _ _
    (ap (λ m. run_before_less r (suc m)) e ∙ full_less r k h)
    (ap (λ m. run_before_more r (suc m)) e ∙ full_more r k h)))

-- a weight that is not common ends the run and is spelled
pub other_level : (r : RunBytes) (spell : ℕ → List ℕ) (n w k : ℕ) (ws last spelled : List ℕ) → w ≢ r.common → last ≡ run_before r n w → spell w ≡ spelled → k ≡ 0
    → level_bytes r spell n (w ∷ ws) ≡ (last ++ spelled) ++ level_bytes r spell k ws
other_level r spell n w k ws last spelled other p q e =
    level_other r spell n w ws other
    ∙ (ap (λ bs. bs ++ (spell w ++ level_bytes r spell 0 ws)) (sym p)
    ∙ (ap (λ bs. last ++ (bs ++ level_bytes r spell 0 ws)) q
    ∙ (sym (append_assoc last spelled (level_bytes r spell 0 ws)) ∙ ap (λ m. (last ++ spelled) ++ level_bytes r spell m ws) (sym e))))
