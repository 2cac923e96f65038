-- The bytes of a level are in the order of its lists.
use Rattle.std.proofs.Common.{◌≡◌, ◌≢◌, ℕ, suc, ◌<◌, ◌≤◌, List, [], ◌∷◌, ◌++◌, refl, sym, ap, ◌∙◌, inl, inr, ◌⊎◌, arith, Less, append_assoc, eq-eqb, ne_eqb}
use Rattle.std.proofs.lemmas.Bool.{cases_order, lt-ltb, le-ltb}
use Rattle.std.specs.List.{AllByRecursion}
use Rattle.std.specs.Ordering.{ordering_then}
use Rattle.icu_order_levels.specs.declared.run_bytes.RunBytes.{RunBytes}
use Rattle.icu_order_levels.specs.ListOrder.{list_order, IsUnder, IsOver}
use Rattle.icu_order_levels.specs.Runs.{AreRunBytes, IsSpelling, run_before_less, run_before_more, run_before, level_bytes}
use Rattle.icu_order_levels.proofs.Order.{less_head, same_front, less_cases, keeps_order}
use Rattle.icu_order_levels.proofs.RunOrder.{less_less, less_more, more_less, more_more, run_apart}

-- the two steps of `level_bytes`, and the two kinds of run
pub level_common : (r : RunBytes) (spell : ℕ → List ℕ) (n w : ℕ) (ws : List ℕ) → w ≡ r.common → level_bytes r spell n (w ∷ ws)
    ≡ level_bytes r spell (suc n) ws
level_common r spell n w ws e = rw (eq-eqb w r.common e, level_bytes) refl

pub level_other : (r : RunBytes) (spell : ℕ → List ℕ) (n w : ℕ) (ws : List ℕ) → w ≢ r.common → level_bytes r spell n (w ∷ ws)
    ≡ run_before r n w ++ (spell w ++ level_bytes r spell 0 ws)
level_other r spell n w ws e = rw (ne_eqb w r.common e, level_bytes) refl

pub run_less : (r : RunBytes) (n w : ℕ) → w < r.common → run_before r n w ≡ run_before_less r n
run_less r n w l = rw (lt-ltb w r.common l) refl

pub run_more : (r : RunBytes) (n w : ℕ) → r.common < w → run_before r n w ≡ run_before_more r n
run_more r n w l = rw (le-ltb w r.common (omega arith)) refl

pub not_less : (r : RunBytes) (n w : ℕ) → r.common ≤ w → run_before r n w ≡ run_before_more r n
not_less r n w l = rw (le-ltb w r.common l) refl

pub over_append : (n : ℕ) (s t : List ℕ) → IsOver n s → IsOver n (s ++ t)
over_append n [] t u = absurd u
over_append n (x ∷ s) t u = u

pub under_append : (n m : ℕ) (s t : List ℕ) → IsOver m s → IsUnder n s → IsUnder n (s ++ t)
under_append n m [] t v u = absurd v
under_append n m (x ∷ s) t v u = u

pub under_over : (n : ℕ) (s t : List ℕ) → IsUnder (suc n) s → IsOver n t → list_order s t ≡ Less
under_over n s [] u v = absurd v
under_over n [] (y ∷ t) u v = refl
under_over n (x ∷ s) (y ∷ t) u v = less_head x y s t (omega arith)

pub under_more : (n m : ℕ) (s : List ℕ) → n ≤ m → IsUnder n s → IsUnder m s
under_more n m [] l u = u
under_more n m (x ∷ s) l u = omega arith

pub over_less : (n m : ℕ) (s : List ℕ) → n ≤ m → IsOver m s → IsOver n s
over_less n m [] l u = absurd u
over_less n m (x ∷ s) l u = omega arith

pub end_below_high : (r : RunBytes) → AreRunBytes r → (end : ℕ) → end < r.low → end ≤ r.high
end_below_high r ok end l = let a = ok.some in let c = ok.to_middle in let d = ok.to_high in omega arith

module _ (r : RunBytes) (ok : AreRunBytes r) (spell : ℕ → List ℕ) where
  -- a written weight with its run, before anything
  step : (n w : ℕ) (ws t : List ℕ) → w ≢ r.common → level_bytes r spell n (w ∷ ws) ++ t
      ≡ run_before r n w ++ (spell w ++ (level_bytes r spell 0 ws ++ t))
  step n w ws t e = rw (level_other r spell n w ws e) (append_assoc (run_before r n w) (spell w ++ level_bytes r spell 0 ws) t
      ∙ ap (λ z. run_before r n w ++ z) (append_assoc (spell w) (level_bytes r spell 0 ws) t))

  -- k common weights before something below, beside more than k
  after_less : (ws : List ℕ) (k n : ℕ) (s t : List ℕ) → k < n → IsUnder r.low s
      → list_order (run_before_less r k ++ s) (level_bytes r spell n ws ++ t) ≡ Less
  after_less [] k n s t l u = less_less r ok k n s t l u
  after_less (w ∷ ws) k n s t l u = by (after_less ws k (suc n) s t (omega arith) u) (cases_order w r.common)
    where
      by : list_order (run_before_less r k ++ s) (level_bytes r spell (suc n) ws ++ t) ≡ Less → (w ≡ r.common)
          ⊎ ((w < r.common) ⊎ (r.common < w)) → list_order (run_before_less r k ++ s) (level_bytes r spell n (w ∷ ws) ++ t) ≡ Less
      by ih (inl e) = rw (level_common r spell n w ws e) ih
      by ih (inr (inl h)) = rw (step n w ws t (omega arith), run_less r n w h) (less_less r ok k n s _ l u)
      by ih (inr (inr h)) = rw (step n w ws t (omega arith), run_more r n w h) (less_more r ok k n s _ l u)

  after_more : (ws : List ℕ) (k n : ℕ) (s t : List ℕ) → k < n → IsOver r.high s
      → list_order (level_bytes r spell n ws ++ t) (run_before_more r k ++ s) ≡ Less
  after_more [] k n s t l u = more_less r ok k n s t l u
  after_more (w ∷ ws) k n s t l u = by (after_more ws k (suc n) s t (omega arith) u) (cases_order w r.common)
    where
      by : list_order (level_bytes r spell (suc n) ws ++ t) (run_before_more r k ++ s) ≡ Less → (w ≡ r.common)
          ⊎ ((w < r.common) ⊎ (r.common < w)) → list_order (level_bytes r spell n (w ∷ ws) ++ t) (run_before_more r k ++ s) ≡ Less
      by ih (inl e) = rw (level_common r spell n w ws e) ih
      by ih (inr (inl h)) = rw (step n w ws t (omega arith), run_less r n w h) (more_less r ok k n s _ l u)
      by ih (inr (inr h)) = rw (step n w ws t (omega arith), run_more r n w h) (more_more r ok k n s _ l u)

  module _ (end : ℕ) (IsReachable : ℕ → Type 0) (fits : IsSpelling r end spell IsReachable) where
    -- the lesser list's bytes are less
    pub level_less : (vs ws : List ℕ) (k : ℕ) (s t : List ℕ) → AllByRecursion IsReachable vs → AllByRecursion IsReachable ws → IsUnder (suc end) s
        → list_order vs ws ≡ Less → list_order (level_bytes r spell k vs ++ s) (level_bytes r spell k ws ++ t) ≡ Less
    level_less [] [] k s t p q u h = cc
    level_less (v ∷ vs) [] k s t p q u h = cc
    level_less [] (w ∷ ws) k s t p q u h = by (cases_order w r.common)
      where
        by : (w ≡ r.common) ⊎ ((w < r.common) ⊎ (r.common < w))
            → list_order (run_before_less r k ++ s) (level_bytes r spell k (w ∷ ws) ++ t) ≡ Less
        by (inl e) =
            rw (level_common r spell k w ws e) (after_less ws k (suc k) s t (omega arith) (under_more (suc end) r.low s fits.end_below u))
        by (inr (inl l)) = rw (step k w ws t (omega arith), run_less r k w l)
            (same_front (run_before_less r k) _ _ ∙ under_over end s _ u (over_append end (spell w) _ (fits.below w q.0 l).0))
        by (inr (inr l)) = rw (step k w ws t (omega arith), run_more r k w l)
            (run_apart r ok k s _
            (under_over end s _ u
            (over_less end r.high _ (end_below_high r ok end fits.end_below) (over_append r.high (spell w) _ (fits.above w q.0 l)))))
    level_less (v ∷ vs) (w ∷ ws) k s t p q u h =
        by (less_cases v w vs ws h) (cases_order v r.common) (cases_order w r.common) (λ n l. level_less vs ws n s t p.1 q.1 u l)
      where
        rest_v : List ℕ
        rest_v = level_bytes r spell 0 vs ++ s

        rest_w : List ℕ
        rest_w = level_bytes r spell 0 ws ++ t

        by : (v < w) ⊎ ((v ≡ w) × (list_order vs ws ≡ Less)) → (v ≡ r.common) ⊎ ((v < r.common) ⊎ (r.common < v)) → (w ≡ r.common)
            ⊎ ((w < r.common) ⊎ (r.common < w))
            → ((n : ℕ) → list_order vs ws ≡ Less → list_order (level_bytes r spell n vs ++ s) (level_bytes r spell n ws ++ t) ≡ Less)
            → list_order (level_bytes r spell k (v ∷ vs) ++ s) (level_bytes r spell k (w ∷ ws) ++ t) ≡ Less
        by (inl l) (inl a) (inl b) ih = absurd (omega arith)
        by (inl l) (inl a) (inr (inl b)) ih = absurd (omega arith)
        by (inl l) (inl a) (inr (inr b)) ih = rw (level_common r spell k v vs a, step k w ws t (omega arith), run_more r k w b)
            (after_more vs k (suc k) _ s (omega arith) (over_append r.high (spell w) _ (fits.above w q.0 b)))
        by (inl l) (inr (inl a)) (inl b) ih = rw (level_common r spell k w ws b, step k v vs s (omega arith), run_less r k v a)
            (let f = fits.below v p.0 a in after_less ws k (suc k) _ t (omega arith) (under_append r.low end (spell v) _ f.0 f.1))
        by (inl l) (inr (inl a)) (inr (inl b)) ih =
            rw (step k v vs s (omega arith), step k w ws t (omega arith), run_less r k v a, run_less r k w b)
            (same_front (run_before_less r k) _ _ ∙ fits.apart v w p.0 q.0 (omega arith) (omega arith) l _ _)
        by (inl l) (inr (inl a)) (inr (inr b)) ih =
            rw (step k v vs s (omega arith), step k w ws t (omega arith), run_less r k v a, run_more r k w b)
            (run_apart r ok k _ _ (fits.apart v w p.0 q.0 (omega arith) (omega arith) l _ _))
        by (inl l) (inr (inr a)) (inl b) ih = absurd (omega arith)
        by (inl l) (inr (inr a)) (inr (inl b)) ih = absurd (omega arith)
        by (inl l) (inr (inr a)) (inr (inr b)) ih =
            rw (step k v vs s (omega arith), step k w ws t (omega arith), run_more r k v a, run_more r k w b)
            (same_front (run_before_more r k) _ _ ∙ fits.apart v w p.0 q.0 (omega arith) (omega arith) l _ _)
        by (inr e) (inl a) b ih = rw (level_common r spell k v vs a, level_common r spell k w ws (sym e.0 ∙ a)) (ih (suc k) e.1)
        by (inr e) (inr a) b ih =
            let nv : v ≢ r.common = omega arith in let same = e.0 in let nw : w ≢ r.common = omega arith in
            rw (step k v vs s nv, step k w ws t nw, same) (same_front (run_before r k w) _ _ ∙ (same_front (spell w) _ _ ∙ ih 0 e.1))

    -- THE LEVEL: the order of the bytes is that of the lists, and then of what follows
    pub level_order : (vs ws : List ℕ) (s t : List ℕ) → AllByRecursion IsReachable vs → AllByRecursion IsReachable ws → IsUnder (suc end) s
        → IsUnder (suc end) t
        → list_order (level_bytes r spell 0 vs ++ s) (level_bytes r spell 0 ws ++ t) ≡ ordering_then (list_order vs ws) (list_order s t)
    level_order vs ws s t p q u v =
        keeps_order vs ws _ _ s t (level_less vs ws 0 s t p q u) (level_less ws vs 0 t s q p v) (λ e. ap (level_bytes r spell 0) e)
