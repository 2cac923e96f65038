-- The order of bytes that are written member by member, each by a state that the members before it leave.
use Rattle.std.proofs.Common.{◌≡◌, ℕ, ◌<◌, List, [], ◌∷◌, ◌++◌, map, refl, ap, ap₂, ◌∙◌, subst, inl, inr, ◌⊎◌, Less, append_assoc}
use Rattle.std.specs.Ordering.{ordering_then}
use Rattle.icu_order_levels.specs.ListOrder.{list_order, IsUnder, IsOver, Precedes}
use Rattle.icu_order_levels.proofs.Order.{same_front, less_cases, keeps_order}
use Rattle.icu_order_levels.proofs.LevelOrder.{under_over, over_append}

-- the bytes of a list whose members each give bytes by a state, and lead to the next state
abbrev pub stepwise_bytes : {S : Type 0} → (S → ℕ → List ℕ) → (S → ℕ → S) → S → List ℕ → List ℕ
stepwise_bytes step next s [] = []
stepwise_bytes step next s (w ∷ ws) = step s w ++ stepwise_bytes step next (next s w) ws

-- each member may stand in the state in which it is met
abbrev pub StandAlong : {S : Type 0} → (S → ℕ → S) → (S → ℕ → Type 0) → S → List ℕ → Type 0
StandAlong next Stands s [] = Unit {0}
StandAlong next Stands s (w ∷ ws) = Stands s w × StandAlong next Stands (next s w) ws

-- In each state, what may stand there begins above 01, of two ranks the lesser precedes, and what has one rank
-- gives the same bytes and the same state
pub record IsRising {S : Type 0} (rank : ℕ → ℕ) (step : S → ℕ → List ℕ) (next : S → ℕ → S) (Stands : S → ℕ → Type 0) : Type 0 where
  pub leads : (s : S) (w : ℕ) → Stands s w → IsOver 1 (step s w)
  pub rises : (s : S) (v w : ℕ) → Stands s v → Stands s w → rank v < rank w → Precedes (step s v) (step s w)
  pub same : (s : S) (v w : ℕ) → Stands s v → Stands s w → rank v ≡ rank w → (step s v ≡ step s w) × (next s v ≡ next s w)

module _ {S : Type 0} (rank : ℕ → ℕ) (step : S → ℕ → List ℕ) (next : S → ℕ → S) (Stands : S → ℕ → Type 0)
    (well_formed : IsRising rank step next Stands) where
  pub stepwise_less : (vs ws : List ℕ) (x : S) (s t : List ℕ) → StandAlong next Stands x vs → StandAlong next Stands x ws → IsUnder 2 s
      → list_order (map rank vs) (map rank ws) ≡ Less
      → list_order (stepwise_bytes step next x vs ++ s) (stepwise_bytes step next x ws ++ t) ≡ Less
  stepwise_less [] [] x s t p q u h = cc
  stepwise_less (v ∷ vs) [] x s t p q u h = cc
  stepwise_less [] (w ∷ ws) x s t p q u h =
      under_over 1 s _ u (over_append 1 (step x w ++ stepwise_bytes step next (next x w) ws) t
      (over_append 1 (step x w) _ (well_formed.leads x w q.0)))
  stepwise_less (v ∷ vs) (w ∷ ws) x s t p q u h =
      rw (
        append_assoc (step x v) (stepwise_bytes step next (next x v) vs) s,
        append_assoc (step x w)
            (stepwise_bytes step next (next x w) ws) t,
      )
      (by (less_cases (rank v) (rank w) (map rank vs) (map rank ws) h) (λ y a b l. stepwise_less vs ws y s t a b u l))
    where
      by : (rank v < rank w) ⊎ ((rank v ≡ rank w) × (list_order (map rank vs) (map rank ws) ≡ Less))
          → ((y : S) → StandAlong next Stands y vs → StandAlong next Stands y ws → list_order (map rank vs) (map rank ws) ≡ Less
          → list_order (stepwise_bytes step next y vs ++ s) (stepwise_bytes step next y ws ++ t) ≡ Less)
          → list_order (step x v ++ (stepwise_bytes step next (next x v) vs ++ s))
          (step x w ++ (stepwise_bytes step next (next x w) ws ++ t)) ≡ Less
      by (inl l) ih = well_formed.rises x v w p.0 q.0 l _ _
      by (inr e) ih = let f = well_formed.same x v w p.0 q.0 e.0 in
          rw (f.0, f.1) (same_front (step x w) _ _ ∙ ih (next x w) (subst (λ y. StandAlong next Stands y vs) f.1 p.1) q.1 e.1)

  stepwise_same : (vs ws : List ℕ) (x : S) → StandAlong next Stands x vs → StandAlong next Stands x ws → map rank vs ≡ map rank ws
      → stepwise_bytes step next x vs ≡ stepwise_bytes step next x ws
  stepwise_same [] [] x p q e = refl
  stepwise_same (v ∷ vs) [] x p q e = cc
  stepwise_same [] (w ∷ ws) x p q e = cc
  stepwise_same (v ∷ vs) (w ∷ ws) x p q e =
      let head : rank v ≡ rank w = cc in
      let tail : map rank vs ≡ map rank ws = cc in
      let f = well_formed.same x v w p.0 q.0 head in
      let ih = stepwise_same vs ws (next x w) (subst (λ y. StandAlong next Stands y vs) f.1 p.1) q.1 tail in
      ap₂ (λ (a b : List ℕ). a ++ b) f.0 (ap (λ y. stepwise_bytes step next y vs) f.1 ∙ ih)

  -- the order of the bytes is that of the ranks, and then of what follows
  pub stepwise_order : (vs ws : List ℕ) (x : S) (s t : List ℕ) → StandAlong next Stands x vs → StandAlong next Stands x ws → IsUnder 2 s
      → IsUnder 2 t
      → list_order (stepwise_bytes step next x vs ++ s) (stepwise_bytes step next x ws ++ t)
      ≡ ordering_then (list_order (map rank vs) (map rank ws)) (list_order s t)
  stepwise_order vs ws x s t p q u v =
      keeps_order (map rank vs) (map rank ws) _ _ s t (stepwise_less vs ws x s t p q u) (stepwise_less ws vs x t s q p v)
      (λ e. stepwise_same vs ws x p q e)
