-- Weights of two bytes whose leads are moved out of the way of runs.
use Rattle.std.proofs.Common.{◌≡◌, ◌≢◌, ℕ, ◌/◌, ◌%◌, ◌^◌, ◌<◌, ◌∷◌, sym, subst, arith}
use Rattle.icu_order_levels.specs.declared.run_bytes.RunBytes.{RunBytes}
use Rattle.icu_order_levels.specs.ListOrder.{IsBeginning}
use Rattle.icu_order_levels.specs.WeightBytes.{weight_bytes}
use Rattle.icu_order_levels.specs.Runs.{IsSpelling}
use Rattle.icu_order_levels.specs.Premises.{IsPrefixFree}
use Rattle.icu_order_levels.proofs.WeightOrder.{weights_precede, over_first, under_first}
use Rattle.icu_order_levels.proofs.PrecedesLemmas.{nonzero_first, begins_alike}

lead_and_rest : (w : ℕ) → 0 < w / 256 → weight_bytes 2 w ≡ w / 256 ∷ weight_bytes 1 (w % 256)
lead_and_rest w l = nonzero_first (w / 256) (weight_bytes 1 (w % 256)) l

-- weights of which one begins the other have one lead
pub begins_lead : (v w : ℕ) → 0 < v / 256 → 0 < w / 256 → IsBeginning (weight_bytes 2 v) (weight_bytes 2 w) → v / 256 ≡ w / 256
begins_lead v w a b h = (begins_alike 1 v w a b h).0

-- which weight begins which is the same after the leads are moved apart from one another
pub moved_begins : (v w x y : ℕ) → 0 < v / 256 → 0 < w / 256 → 0 < x / 256 → 0 < y / 256 → x % 256 ≡ v % 256 → y % 256 ≡ w % 256
    → (x / 256 ≡ y / 256 → v / 256 ≡ w / 256) → IsBeginning (weight_bytes 2 x) (weight_bytes 2 y)
    → IsBeginning (weight_bytes 2 v) (weight_bytes 2 w)
moved_begins v w x y a b c d e f g h =
    subst (λ l. IsBeginning l (weight_bytes 2 w)) (sym (lead_and_rest v a))
    (subst (λ l. IsBeginning (v / 256 ∷ weight_bytes 1 (v % 256)) l) (sym (lead_and_rest w b))
    (back (subst (λ l. IsBeginning l (y / 256 ∷ weight_bytes 1 (y % 256))) (lead_and_rest x c)
    (subst (λ l. IsBeginning (weight_bytes 2 x) l) (lead_and_rest y d) h))))
  where
    back : IsBeginning (x / 256 ∷ weight_bytes 1 (x % 256)) (y / 256 ∷ weight_bytes 1 (y % 256))
        → IsBeginning (v / 256 ∷ weight_bytes 1 (v % 256)) (w / 256 ∷ weight_bytes 1 (w % 256))
    back k = (
      g k.0,
      subst (λ m. IsBeginning (weight_bytes 1 m) (weight_bytes 1 (w % 256))) e
          (subst (λ m. IsBeginning (weight_bytes 1 (x % 256)) (weight_bytes 1 m)) f k.1),
    )

-- Weights are moved in their leads alone, in their order, and out of the way of runs
pub record IsMove (r : RunBytes) (end : ℕ) (move : ℕ → ℕ) (IsReachable : ℕ → Type 0) : Type 0 where
  pub low : (w : ℕ) → IsReachable w → w < r.common → (end < move w / 256) × (move w / 256 < r.low)
  pub high : (w : ℕ) → IsReachable w → r.common < w → r.high < move w / 256
  pub fits : (w : ℕ) → IsReachable w → move w < 2 ^ 16
  pub leads : (w : ℕ) → IsReachable w → 0 < w / 256
  pub moved_leads : (w : ℕ) → IsReachable w → 0 < move w / 256
  pub rest : (w : ℕ) → IsReachable w → move w % 256 ≡ w % 256
  pub rises : (v w : ℕ) → IsReachable v → IsReachable w → v ≢ r.common → w ≢ r.common → v < w → move v < move w
  pub one_lead : (v w : ℕ) → IsReachable v → IsReachable w → v ≢ r.common → w ≢ r.common → move v / 256 ≡ move w / 256 → v / 256 ≡ w / 256

pub moved_spelling : (r : RunBytes) (end : ℕ) (move : ℕ → ℕ) (IsReachable : ℕ → Type 0) → end < r.low → IsMove r end move IsReachable
    → IsPrefixFree (weight_bytes 2) IsReachable → IsSpelling r end (λ w. weight_bytes 2 (move w)) IsReachable
moved_spelling r end move IsReachable l well_formed free = record {
  end_below = l;
  below =
      λ w p k. let b = well_formed.low w p k in (
        over_first end (move w / 256) (weight_bytes 1 (move w % 256)) b.0,
        under_first r.low
            (move w / 256) (weight_bytes 1 (move w % 256)) b.1,
      );
  above = λ w p k. over_first r.high (move w / 256) (weight_bytes 1 (move w % 256)) (well_formed.high w p k);
  apart = λ v w p q nv nw k. weights_precede 2 (move v) (move w) (well_formed.fits w q) (well_formed.rises v w p q nv nw k)
      (λ h. free v w p q (omega arith) (moved_begins v w (move v) (move w) (well_formed.leads v p) (well_formed.leads w q) (well_formed.moved_leads v p)
      (well_formed.moved_leads w q) (well_formed.rest v p) (well_formed.rest w q) (well_formed.one_lead v w p q nv nw) h));
}
