-- Bytes that are written member by member begin with others exactly if their members do.
use Rattle.std.proofs.Common.{◌≡◌, ℕ, ◌<◌, List, [], ◌∷◌, ◌++◌, map, refl, sym, ap, ap₂, ◌∙◌, subst, inl, inr, ◌⊎◌, append_assoc, arith}
use Rattle.std.proofs.lemmas.Bool.{cases_order}
use Rattle.icu_order_levels.specs.ListOrder.{IsUnder}
use Rattle.icu_order_levels.proofs.StepwiseOrder.{stepwise_bytes, StandAlong, IsRising}
use Rattle.icu_order_levels.specs.beginnings.KeyBeginnings.{begins}
use Rattle.icu_order_levels.proofs.beginnings.ListBeginningLemmas.{begins_alike, begins_unlike, begins_front, begins_lesser, begins_greater, begins_over}

module _ {S : Type 0} (rank : ℕ → ℕ) (step : S → ℕ → List ℕ) (next : S → ℕ → S) (Stands : S → ℕ → Type 0)
    (well_formed : IsRising rank step next Stands) where
  pub stepwise_begins : (ps ws : List ℕ) (x : S) (more : List ℕ) → StandAlong next Stands x ps → StandAlong next Stands x ws → IsUnder 2 more
      → begins (stepwise_bytes step next x ps) (stepwise_bytes step next x ws ++ more) ≡ begins (map rank ps) (map rank ws)
  stepwise_begins [] ws x more p q u = refl
  stepwise_begins (v ∷ vs) [] x more p q u = begins_over (step x v) (stepwise_bytes step next (next x v) vs) more (well_formed.leads x v p.0) u
  stepwise_begins (v ∷ vs) (w ∷ ws) x more p q u =
      ap (begins (step x v ++ stepwise_bytes step next (next x v) vs)) (append_assoc (step x w) (stepwise_bytes step next (next x w) ws) more)
      ∙ by (cases_order (rank v) (rank w)) (λ y a b. stepwise_begins vs ws y more a b u)
    where
      by : (rank v ≡ rank w) ⊎ ((rank v < rank w) ⊎ (rank w < rank v))
          → ((y : S) → StandAlong next Stands y vs → StandAlong next Stands y ws
          → begins (stepwise_bytes step next y vs) (stepwise_bytes step next y ws ++ more) ≡ begins (map rank vs) (map rank ws))
          → begins (step x v ++ stepwise_bytes step next (next x v) vs) (step x w ++ (stepwise_bytes step next (next x w) ws ++ more))
          ≡ begins (rank v ∷ map rank vs) (rank w ∷ map rank ws)
      by (inl e) ih =
          let f = well_formed.same x v w p.0 q.0 e in
          ap₂ (λ (bs : List ℕ) (y : S). begins (bs ++ stepwise_bytes step next y vs) (step x w ++ (stepwise_bytes step next (next x w) ws ++ more))) f.0 f.1
          ∙ (begins_front (step x w) (stepwise_bytes step next (next x w) vs) (stepwise_bytes step next (next x w) ws ++ more)
          ∙ (ih (next x w) (subst (λ y. StandAlong next Stands y vs) f.1 p.1) q.1
          ∙ sym (begins_alike (rank v) (rank w) (map rank vs) (map rank ws) e)))
      by (inr (inl l)) ih =
          begins_lesser (step x v) (step x w) (stepwise_bytes step next (next x v) vs) (stepwise_bytes step next (next x w) ws ++ more)
          (well_formed.rises x v w p.0 q.0 l)
          ∙ sym (begins_unlike (rank v) (rank w) (map rank vs) (map rank ws) (omega arith))
      by (inr (inr l)) ih =
          begins_greater (step x v) (step x w) (stepwise_bytes step next (next x v) vs) (stepwise_bytes step next (next x w) ws ++ more)
          (well_formed.rises x w v q.0 p.0 l)
          ∙ sym (begins_unlike (rank v) (rank w) (map rank vs) (map rank ws) (omega arith))
