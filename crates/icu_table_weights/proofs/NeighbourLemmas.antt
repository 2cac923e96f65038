-- Weights in the order of what they are written as, of which no neighbours overlap.
use Rattle.std.proofs.Common.{◌≡◌, ◌≢◌, ℕ, ◌+◌, ◌^◌, ◌<◌, ◌≤◌, List, length, get_or, refl, sym, ap, ◌∙◌, subst, inl, inr, ◌⊎◌, arith, swap, IsPermutation}
use Rattle.std.specs.List.Sorted.{IsNonDecreasingBy}
use Rattle.std.proofs.lemmas.Bool.{cases_eq, cases_lt}
use Rattle.std.proofs.lemmas.List.Edits.{Swapped, swapped_from_swap, length-swap}
use Rattle.std.proofs.lemmas.List.Sorted.{IsPermutation-keeps}
use Rattle.icu_order_levels.specs.ListOrder.{IsBeginning}
use Rattle.icu_order_levels.specs.WeightBytes.{weight_bytes}
use Rattle.icu_table_weights.proofs.BeginningLemmas.{beginning_le, beginning_between, begins_itself}

-- where no weight begins its neighbour, none begins another
module _ (f : ℕ → ℕ) (ws : List ℕ) (fits : (k : ℕ) → k < length ws → f (get_or ws k 0) < 2 ^ 32) (up : IsNonDecreasingBy f ws) where
  abbrev Begins : ℕ → ℕ → Type 0
  Begins i j = IsBeginning (weight_bytes 4 (f (get_or ws i 0))) (weight_bytes 4 (f (get_or ws j 0)))

  pub neighbours_suffice : ((k : ℕ) → k + 1 < length ws → Begins k (k + 1) → ⊥)
      → (i j : ℕ) → i < length ws → j < length ws → i ≢ j → Begins i j → ⊥
  neighbours_suffice free i j p q n h = by (cases_lt i j)
    where
      by : (i < j) ⊎ (j ≤ i) → ⊥
      by (inl l) =
          free i (omega (arith, q)) (beginning_between (f (get_or ws i 0)) (f (get_or ws (i + 1) 0)) (f (get_or ws j 0)) (fits i p)
          (up i (i + 1) 0 (omega arith) (omega (arith, q))) (up (i + 1) j 0 (omega arith) q) h)
      by (inr l) =
          let below : j < i = omega (arith, n) in
          let le = beginning_le (f (get_or ws i 0)) (f (get_or ws j 0)) (fits i p) (fits j q) h in
          let one = up j (j + 1) 0 (omega arith) (omega (arith, p)) in
          let more = up (j + 1) i 0 (omega arith) p in
          let same : f (get_or ws j 0) ≡ f (get_or ws (j + 1) 0) = omega (arith, le, one, more) in
          free j (omega (arith, p))
          (subst (λ x. IsBeginning (weight_bytes 4 (f (get_or ws j 0))) (weight_bytes 4 x)) same (begins_itself (weight_bytes 4 (f (get_or ws j 0)))))

-- ---- another order

-- v and w stand at two places of the list
pub record AreAt (v w : ℕ) (ws : List ℕ) : Type 0 where
  pub i : ℕ
  pub j : ℕ
  pub first : i < length ws
  pub second : j < length ws
  pub different : i ≢ j
  pub is_first : get_or ws i 0 ≡ v
  pub is_second : get_or ws j 0 ≡ w

-- where a swap of a and b takes what stands at m
abbrev To : ℕ → ℕ → ℕ → ℕ → Type 0
To a b m k = ((m ≡ a) × (k ≡ b)) ⊎ (((m ≡ b) × (k ≡ a)) ⊎ ((m ≢ a) × (m ≢ b) × (k ≡ m)))

goes : (f g : ℕ → ℕ) (a b m : ℕ) → Swapped f g a b → (m ≡ a) ⊎ (m ≢ a) → (m ≡ b) ⊎ (m ≢ b) → (k : ℕ) × To a b m k × (g k ≡ f m)
goes f g a b m s (inl e) y = (b, inl (e, refl), s.1 ∙ ap f (sym e))
goes f g a b m s (inr n) (inl e) = (a, inr (inl (e, refl)), s.0 ∙ ap f (sym e))
goes f g a b m s (inr n) (inr o) = (m, inr (inr (n, o, refl)), s.2 m n o)

swapped : (v w : ℕ) (ws : List ℕ) (a b : ℕ) → a < length ws → b < length ws → AreAt v w ws → AreAt v w (swap ws a b)
swapped v w ws a b p q h =
    let len = length-swap ws a b in
    let s = swapped_from_swap ws (swap ws a b) a b 0 p q refl in
    let x = goes (λ n. get_or ws n 0) (λ n. get_or (swap ws a b) n 0) a b h.i s (cases_eq h.i a) (cases_eq h.i b) in
    let y = goes (λ n. get_or ws n 0) (λ n. get_or (swap ws a b) n 0) a b h.j s (cases_eq h.j a) (cases_eq h.j b) in
    record {
      i = x.0;
      j = y.0;
      first = omega (arith, x.1, h.first);
      second = omega (arith, y.1, h.second);
      different = omega (arith, x.1, y.1, h.different);
      is_first = x.2 ∙ h.is_first;
      is_second = y.2 ∙ h.is_second;
    }

pub permuted : (v w : ℕ) (ws us : List ℕ) → IsPermutation ws us → AreAt v w ws → AreAt v w us
permuted v w ws us moved h = IsPermutation-keeps ws (AreAt v w) h (swapped v w) us moved
