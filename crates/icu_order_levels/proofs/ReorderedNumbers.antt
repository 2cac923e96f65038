-- Reordering gives the weights of a number one other lead.
use Rattle.std.proofs.Common.{◌≡◌, false, ℕ, ◌^◌, ◌<◌, List, [], ◌∷◌, map, refl, sym, subst, ap, ap₂, arith, lit<, inl, ne_eqb}
use Rattle.std.specs.List.{AllByRecursion}
use Rattle.std.specs.Ordering.{nat_cmp}
use Rattle.icu_order_levels.specs.ListOrder.{list_order}
use Rattle.icu_order_levels.specs.Primaries.{Compression, lead, below_lead}
use Rattle.icu_order_levels.specs.Premises.{ArePrimaries, number_lead, goes_on, IsPrimaryList}
use Rattle.icu_order_levels.specs.Numbers.{number_weight, in_threes, number_bytes, number_weights, run_weights, value_of}
use Rattle.icu_order_levels.specs.NumberLaws.{IsShortRun}
use Rattle.icu_order_levels.proofs.NumberWeightOrder.{numbers_by_value}
use Rattle.icu_order_levels.proofs.DigitRuns.{one_number, run_bound}
use Rattle.icu_order_levels.proofs.NumberBytes.{IsByte, number_form, form_bytes}
use Rattle.icu_order_levels.proofs.NumberStands.{weight_fits, weight_lead}

module _ (c : Compression) (numeric : ℕ) (IsReachable : ℕ → Type 0) (well_formed : ArePrimaries c numeric IsReachable) (n : numeric < 256) where
  moved_weight : (x y z : ℕ) → x < 256 → y < 256 → z < 256 → c.reorder (number_weight numeric x y z)
      ≡ number_weight (number_lead c numeric) x y z
  moved_weight x y z f g h =
      let fits = weight_fits numeric x y z n f g h in
      same (c.reorder (number_weight numeric x y z)) (number_lead c numeric)
      (well_formed.numbers_together (number_weight numeric x y z) fits (weight_lead numeric x y z n f g h))
      (well_formed.lead_alone (number_weight numeric x y z) fits)
    where
      same : (w l : ℕ) → lead w ≡ l → below_lead w ≡ below_lead (number_weight numeric x y z) → w ≡ number_weight l x y z
      same w l e k = omega arith

  moved_threes : (bs : List ℕ) → AllByRecursion IsByte bs → map c.reorder (in_threes numeric bs) ≡ in_threes (number_lead c numeric) bs
  moved_threes [] a = refl
  moved_threes (x ∷ []) a = ap (λ w. w ∷ []) (moved_weight x 0 0 a.0.1 (lit< tt) (lit< tt))
  moved_threes (x ∷ (y ∷ [])) a = ap (λ w. w ∷ []) (moved_weight x y 0 a.0.1 a.1.0.1 (lit< tt))
  moved_threes (x ∷ (y ∷ (z ∷ bs))) a =
      ap₂ (λ (w : ℕ) (ws : List ℕ). w ∷ ws) (moved_weight x y z a.0.1 a.1.0.1 a.1.1.0.1) (moved_threes bs a.1.1.1)

  pub moved_number : (v : ℕ) → v < 100 ^ 127 → map c.reorder (number_weights numeric v) ≡ number_weights (number_lead c numeric) v
  moved_number v l = moved_threes (number_bytes v) (form_bytes (number_bytes v) (number_form v l))

  pub moved_by_value : (v w : ℕ) → v < 100 ^ 127 → w < 100 ^ 127
      → list_order (map c.reorder (number_weights numeric v)) (map c.reorder (number_weights numeric w)) ≡ nat_cmp v w
  moved_by_value v w f g = rw (moved_number v f, moved_number w g) (numbers_by_value (number_lead c numeric) v w f g)

  pub moved_runs_by_value : (ds es : List ℕ) → IsShortRun ds → IsShortRun es
      → list_order (map c.reorder (run_weights numeric ds)) (map c.reorder (run_weights numeric es)) ≡ nat_cmp (value_of ds) (value_of es)
  moved_runs_by_value ds es p q =
      rw (one_number numeric ds p.some p.short, one_number numeric es q.some q.short)
      (moved_by_value (value_of ds) (value_of es) (run_bound ds p.digits p.short) (run_bound es q.digits q.short))

-- a reachable primary stands outside a number, and leaves what follows there
pub reachable_stands : (c : Compression) (numeric : ℕ) (IsReachable : ℕ → Type 0) → ArePrimaries c numeric IsReachable → (w : ℕ) (ws : List ℕ) → IsReachable w
    → IsPrimaryList numeric IsReachable false ws → IsPrimaryList numeric IsReachable false (w ∷ ws)
reachable_stands c numeric IsReachable well_formed w ws p rest = (inl p, subst (λ i. IsPrimaryList numeric IsReachable i ws) (sym outside) rest)
  where
    outside : goes_on numeric false w ≡ false
    outside = rw (ne_eqb (lead w) numeric (well_formed.not_numeric w p)) refl
