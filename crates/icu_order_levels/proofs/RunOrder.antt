-- The order of the bytes of runs.
use Rattle.std.proofs.Common.{◌≡◌, ℕ, zero, suc, ◌+◌, ◌-◌, ◌*◌, ◌/◌, ◌%◌, ◌<◌, ◌≤◌, List, [], ◌∷◌, ◌++◌, refl, ap, ◌∙◌, inl, inr, ◌⊎◌, ⊎_elim, arith, Less, append_assoc, replicate}
use Rattle.std.proofs.lemmas.Nat.{div-add-mod', mul-le, mod_below}
use Rattle.std.proofs.lemmas.Bool.{cases_order}
use Rattle.icu_order_levels.specs.declared.run_bytes.RunBytes.{RunBytes}
use Rattle.icu_order_levels.specs.ListOrder.{list_order, IsUnder, IsOver}
use Rattle.icu_order_levels.specs.Runs.{AreRunBytes, run_before_less, run_before_more}
use Rattle.icu_order_levels.proofs.Order.{less_head, same_head, alike_head, same_front}

-- of two counts, the lesser has the lesser quotient, or the same and the lesser remainder
pub quotients : (m n c : ℕ) → 0 < c → m < n → (m / c < n / c) ⊎ ((m / c ≡ n / c) × (m % c < n % c))
quotients m n c h l =
    let u = div-add-mod' m c in
    let v = div-add-mod' n c in
    let y = mod_below m c h in
    let z = mod_below n c h in
    let same : m / c ≡ n / c → m % c < n % c = λ e. let w : m / c * c ≡ n / c * c = ap (λ k. k * c) e in omega (arith, u, v, w) in
    let not_more : n / c < m / c → ⊥ =
    λ w. let x : suc (n / c) * c ≤ m / c * c = mul-le (suc (n / c)) c (m / c) c w (omega arith) in omega (arith, u, v, x, y, z) in
    ⊎_elim (λ e. inr (e, same e)) (⊎_elim (λ w. inl w) (λ w. absurd (not_more w))) (cases_order (m / c) (n / c))

-- a run that ends below one that goes on
pub ends_below : (mid low p q x y : ℕ) (s t : List ℕ) → p < q → x ≤ mid → low ≤ mid → low ≤ y → IsUnder low s
    → list_order (replicate p mid ++ x ∷ s) (replicate q mid ++ y ∷ t) ≡ Less
ends_below mid low p zero x y s t pq xm lm ly u = absurd (omega arith)
ends_below mid low (suc p) (suc q) x y s t pq xm lm ly u =
    same_head mid (replicate p mid ++ x ∷ s) (replicate q mid ++ y ∷ t) ∙ ends_below mid low p q x y s t (omega arith) xm lm ly u
ends_below mid low zero (suc q) x y s t pq xm lm ly u =
    ⊎_elim (λ e. alike_head x mid s (replicate q mid ++ y ∷ t) e ∙ rest q s u)
    (⊎_elim (λ l. less_head x mid s (replicate q mid ++ y ∷ t) l) (λ l. absurd (omega arith)))
    (cases_order x mid)
  where
    rest : (q : ℕ) (s : List ℕ) → IsUnder low s → list_order s (replicate q mid ++ y ∷ t) ≡ Less
    rest zero [] u = refl
    rest (suc q) [] u = refl
    rest zero (z ∷ s) u = less_head z y s t (omega arith)
    rest (suc q) (z ∷ s) u = less_head z mid s (replicate q mid ++ y ∷ t) (omega arith)

-- a run that ends above one that goes on
pub ends_above : (mid high p q x y : ℕ) (s t : List ℕ) → p < q → mid ≤ x → mid ≤ high → y ≤ high → IsOver high s
    → list_order (replicate q mid ++ y ∷ t) (replicate p mid ++ x ∷ s) ≡ Less
ends_above mid high p zero x y s t pq xm lm ly u = absurd (omega arith)
ends_above mid high (suc p) (suc q) x y s t pq xm lm ly u =
    same_head mid (replicate q mid ++ y ∷ t) (replicate p mid ++ x ∷ s) ∙ ends_above mid high p q x y s t (omega arith) xm lm ly u
ends_above mid high zero (suc q) x y s t pq xm lm ly u =
    ⊎_elim (λ e. alike_head mid x (replicate q mid ++ y ∷ t) s e ∙ rest q s u)
    (⊎_elim (λ l. less_head mid x (replicate q mid ++ y ∷ t) s l) (λ l. absurd (omega arith)))
    (cases_order mid x)
  where
    rest : (q : ℕ) (s : List ℕ) → IsOver high s → list_order (replicate q mid ++ y ∷ t) s ≡ Less
    rest q [] u = absurd u
    rest zero (z ∷ s) u = less_head y z t s (omega arith)
    rest (suc q) (z ∷ s) u = less_head mid z (replicate q mid ++ y ∷ t) s (omega arith)

-- the same number of middle bytes, and then a lesser byte
pub ends_apart : (mid q x y : ℕ) (s t : List ℕ) → x < y → list_order (replicate q mid ++ x ∷ s) (replicate q mid ++ y ∷ t) ≡ Less
ends_apart mid q x y s t l = same_front (replicate q mid) (x ∷ s) (y ∷ t) ∙ less_head x y s t l

module _ (r : RunBytes) (ok : AreRunBytes r) where
  over_run : (q z : ℕ) (s : List ℕ) → (replicate q r.middle ++ z ∷ []) ++ s ≡ replicate q r.middle ++ z ∷ s
  over_run q z s = append_assoc (replicate q r.middle) (z ∷ []) s

  -- what begins below the low byte is below each run
  under_run : (q z : ℕ) (s t : List ℕ) → r.low ≤ z → IsUnder r.low s → list_order s (replicate q r.middle ++ z ∷ t) ≡ Less
  under_run zero z [] t l u = refl
  under_run (suc q) z [] t l u = refl
  under_run zero z (x ∷ s) t l u = less_head x z s t (omega arith)
  under_run (suc q) z (x ∷ s) t l u =
      let some = ok.some in let to_middle = ok.to_middle in less_head x r.middle s (replicate q r.middle ++ z ∷ t) (omega arith)

  -- and what begins above the high byte is above each run
  over_run_of : (q z : ℕ) (s t : List ℕ) → z ≤ r.high → IsOver r.high s → list_order (replicate q r.middle ++ z ∷ t) s ≡ Less
  over_run_of q z [] t l u = absurd u
  over_run_of zero z (x ∷ s) t l u = less_head z x t s (omega arith)
  over_run_of (suc q) z (x ∷ s) t l u =
      let to_high = ok.to_high in let some = ok.some in less_head r.middle x (replicate q r.middle ++ z ∷ t) s (omega arith)

  -- n common weights and one more before anything, beside n that end
  pub less_less : (k n : ℕ) (s t : List ℕ) → k < n → IsUnder r.low s → list_order (run_before_less r k ++ s) (run_before_less r n ++ t)
      ≡ Less
  less_less k zero s t l u = absurd (omega arith)
  less_less zero (suc n) s t l u =
      rw (over_run (n / r.count) (r.low + n % r.count) t) (under_run (n / r.count) (r.low + n % r.count) s t (omega arith) u)
  less_less (suc k) (suc n) s t l u =
      rw (over_run (k / r.count) (r.low + k % r.count) s, over_run (n / r.count) (r.low + n % r.count) t)
      (by (quotients k n r.count ok.some (omega arith)))
    where
      by : (k / r.count < n / r.count) ⊎ ((k / r.count ≡ n / r.count) × (k % r.count < n % r.count))
          → list_order (replicate (k / r.count) r.middle ++ (r.low + k % r.count) ∷ s)
          (replicate (n / r.count) r.middle ++ (r.low + n % r.count) ∷ t) ≡ Less
      by (inl q) = let rem = mod_below k r.count ok.some in let to_middle = ok.to_middle in
          ends_below r.middle r.low (k / r.count) (n / r.count) (r.low + k % r.count) (r.low + n % r.count) s t q (omega arith)
          (omega arith) (omega arith) u
      by (inr h) = rw h.0 (ends_apart r.middle (n / r.count) (r.low + k % r.count) (r.low + n % r.count) s t (omega arith))

  pub less_more : (k n : ℕ) (s t : List ℕ) → k < n → IsUnder r.low s → list_order (run_before_less r k ++ s) (run_before_more r n ++ t)
      ≡ Less
  less_more k zero s t l u = absurd (omega arith)
  less_more zero (suc n) s t l u =
      let rem = mod_below n r.count ok.some in let to_middle = ok.to_middle in let to_high = ok.to_high in
      rw (over_run (n / r.count) (r.high - n % r.count) t) (under_run (n / r.count) (r.high - n % r.count) s t (omega arith) u)
  less_more (suc k) (suc n) s t l u =
      rw (over_run (k / r.count) (r.low + k % r.count) s, over_run (n / r.count) (r.high - n % r.count) t)
      (by (quotients k n r.count ok.some (omega arith)))
    where
      by : (k / r.count < n / r.count) ⊎ ((k / r.count ≡ n / r.count) × (k % r.count < n % r.count))
          → list_order (replicate (k / r.count) r.middle ++ (r.low + k % r.count) ∷ s)
          (replicate (n / r.count) r.middle ++ (r.high - n % r.count) ∷ t) ≡ Less
      by (inl q) =
          let rem = mod_below k r.count ok.some in let rem2 = mod_below n r.count ok.some in let to_middle = ok.to_middle in let to_high =
          ok.to_high in
          ends_below r.middle r.low (k / r.count) (n / r.count) (r.low + k % r.count) (r.high - n % r.count) s t q (omega arith)
          (omega arith) (omega arith) u
      by (inr h) = let rem2 = mod_below n r.count ok.some in let to_middle = ok.to_middle in let to_high = ok.to_high in
          rw h.0 (ends_apart r.middle (n / r.count) (r.low + k % r.count) (r.high - n % r.count) s t (omega arith))

  pub more_less : (k n : ℕ) (s t : List ℕ) → k < n → IsOver r.high s → list_order (run_before_less r n ++ t) (run_before_more r k ++ s)
      ≡ Less
  more_less k zero s t l u = absurd (omega arith)
  more_less zero (suc n) s t l u =
      let rem = mod_below n r.count ok.some in let to_middle = ok.to_middle in let to_high = ok.to_high in
      rw (over_run (n / r.count) (r.low + n % r.count) t) (over_run_of (n / r.count) (r.low + n % r.count) s t (omega arith) u)
  more_less (suc k) (suc n) s t l u =
      rw (over_run (k / r.count) (r.high - k % r.count) s, over_run (n / r.count) (r.low + n % r.count) t)
      (by (quotients k n r.count ok.some (omega arith)))
    where
      by : (k / r.count < n / r.count) ⊎ ((k / r.count ≡ n / r.count) × (k % r.count < n % r.count))
          → list_order (replicate (n / r.count) r.middle ++ (r.low + n % r.count) ∷ t)
          (replicate (k / r.count) r.middle ++ (r.high - k % r.count) ∷ s) ≡ Less
      by (inl q) =
          let rem = mod_below k r.count ok.some in let rem2 = mod_below n r.count ok.some in let to_middle = ok.to_middle in let to_high =
          ok.to_high in
          ends_above r.middle r.high (k / r.count) (n / r.count) (r.high - k % r.count) (r.low + n % r.count) s t q (omega arith)
          (omega arith) (omega arith) u
      by (inr h) = let rem2 = mod_below n r.count ok.some in let to_middle = ok.to_middle in let to_high = ok.to_high in
          rw h.0 (ends_apart r.middle (n / r.count) (r.low + n % r.count) (r.high - k % r.count) t s (omega arith))

  pub more_more : (k n : ℕ) (s t : List ℕ) → k < n → IsOver r.high s → list_order (run_before_more r n ++ t) (run_before_more r k ++ s)
      ≡ Less
  more_more k zero s t l u = absurd (omega arith)
  more_more zero (suc n) s t l u =
      rw (over_run (n / r.count) (r.high - n % r.count) t) (over_run_of (n / r.count) (r.high - n % r.count) s t (omega arith) u)
  more_more (suc k) (suc n) s t l u =
      rw (over_run (k / r.count) (r.high - k % r.count) s, over_run (n / r.count) (r.high - n % r.count) t)
      (by (quotients k n r.count ok.some (omega arith)))
    where
      by : (k / r.count < n / r.count) ⊎ ((k / r.count ≡ n / r.count) × (k % r.count < n % r.count))
          → list_order (replicate (n / r.count) r.middle ++ (r.high - n % r.count) ∷ t)
          (replicate (k / r.count) r.middle ++ (r.high - k % r.count) ∷ s) ≡ Less
      by (inl q) = let rem = mod_below k r.count ok.some in let to_middle = ok.to_middle in let to_high = ok.to_high in
          ends_above r.middle r.high (k / r.count) (n / r.count) (r.high - k % r.count) (r.high - n % r.count) s t q (omega arith)
          (omega arith) (omega arith) u
      by (inr h) = let rem2 = mod_below n r.count ok.some in let to_middle = ok.to_middle in let to_high = ok.to_high in
          rw h.0 (ends_apart r.middle (n / r.count) (r.high - n % r.count) (r.high - k % r.count) t s (omega arith))

  -- the same run before a lesser and before a greater list
  pub run_apart : (n : ℕ) (s t : List ℕ) → list_order s t ≡ Less → list_order (run_before_less r n ++ s) (run_before_more r n ++ t) ≡ Less
  run_apart zero s t l = l
  run_apart (suc n) s t l = rw (over_run (n / r.count) (r.low + n % r.count) s, over_run (n / r.count) (r.high - n % r.count) t)
      (same_front (replicate (n / r.count) r.middle) _ _ ∙ by (cases_order (r.low + n % r.count) (r.high - n % r.count)))
    where
      by : (r.low + n % r.count ≡ r.high - n % r.count)
          ⊎ ((r.low + n % r.count < r.high - n % r.count) ⊎ (r.high - n % r.count < r.low + n % r.count))
          → list_order ((r.low + n % r.count) ∷ s) ((r.high - n % r.count) ∷ t) ≡ Less
      by (inl e) = alike_head _ _ s t e ∙ l
      by (inr (inl h)) = less_head _ _ s t h
      by (inr (inr h)) =
          let rem = mod_below n r.count ok.some in let to_middle = ok.to_middle in let to_high = ok.to_high in absurd (omega arith)
