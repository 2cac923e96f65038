-- Case bits above tertiaries keep what their level asks.
use Rattle.std.proofs.Common.{◌≡◌, ◌≢◌, ℕ, ◌/◌, ◌%◌, ◌<◌, ◌≤◌, inl, inr, ◌⊎◌, arith}
use Rattle.std.proofs.lemmas.Bool.{cases_eq}
use Rattle.icu_order_levels.specs.ListOrder.{IsBeginning}
use Rattle.icu_order_levels.specs.WeightBytes.{weight_bytes}
use Rattle.icu_order_levels.specs.Premises.{AreTertiaries, IsCasedTertiary}
use Rattle.icu_order_levels.proofs.MovedWeights.{moved_begins, begins_lead}
use Rattle.icu_order_levels.specs.declared.forms.TertiaryForm.{TertiaryForm}
use Rattle.icu_order_levels.specs.declared.forms.TertiaryForm.TheVariants.{LowerFirst, UpperFirst, WithoutCase}

-- Tertiaries without case bits, and others that have theirs above one of them
module _ (IsReachable IsCased : ℕ → Type 0) (well_formed : AreTertiaries WithoutCase IsReachable) where
  -- of two weights with case bits none begins the other
  apart : (v w : ℕ) → IsReachable (v % 0x4000) → IsReachable (w % 0x4000) → v ≢ w → IsBeginning (weight_bytes 2 v) (weight_bytes 2 w) → ⊥
  apart v w p q n b = by (cases_eq (v % 0x4000) (w % 0x4000))
    where
      low_v : 2 ≤ v % 0x4000 / 256
      low_v = well_formed.least (v % 0x4000) p

      low_w : 2 ≤ w % 0x4000 / 256
      low_w = well_formed.least (w % 0x4000) q

      one_lead : v / 256 ≡ w / 256
      one_lead = begins_lead v w (omega (arith, low_v)) (omega (arith, low_w)) b

      by : (v % 0x4000 ≡ w % 0x4000) ⊎ (v % 0x4000 ≡ w % 0x4000 → ⊥) → ⊥
      by (inl e) = n (omega (arith, one_lead))
      by (inr m) = well_formed.prefix_free (v % 0x4000) (w % 0x4000) p q m
          (moved_begins (v % 0x4000) (w % 0x4000) v w (omega (arith, low_v)) (omega (arith, low_w)) (omega (arith, low_v))
          (omega (arith, low_w)) (omega arith) (omega arith) (λ e. omega arith) b)

  pub lower_cased : ((w : ℕ) → IsCased w → IsReachable (w % 0x4000) × (w / 0x4000 < 3)) → AreTertiaries LowerFirst IsCased
  lower_cased parts = record {
    least = λ w h. let p = parts w h in omega (arith, well_formed.least (w % 0x4000) p.0);
    greatest = λ w h. let p = parts w h in omega (arith, p.1, well_formed.greatest (w % 0x4000) p.0);
    leads = λ w h n e. let p = parts w h in
        well_formed.leads (w % 0x4000) p.0 (omega (arith, p.1)) (omega (arith, p.1, well_formed.greatest (w % 0x4000) p.0));
    prefix_free = λ v w h k n b. apart v w (parts v h).0 (parts w k).0 n b;
  }

  pub upper_cased : ((w : ℕ) → IsCased w → IsReachable (w % 0x4000) × (0 < w / 0x4000) × (w / 0x4000 < 4))
      → AreTertiaries UpperFirst IsCased
  upper_cased parts = record {
    least = λ w h. let p = parts w h in omega (arith, p.1, well_formed.least (w % 0x4000) p.0);
    greatest = λ w h. let p = parts w h in omega (arith, p.2);
    leads = λ w h n e. let p = parts w h in
        well_formed.leads (w % 0x4000) p.0 (omega (arith, p.2)) (omega (arith, p.2, well_formed.greatest (w % 0x4000) p.0));
    prefix_free = λ v w h k n b. apart v w (parts v h).0 (parts w k).0 n b;
  }

pub cased_tertiaries : (form : TertiaryForm) (IsReachable : ℕ → Type 0) → AreTertiaries WithoutCase IsReachable
    → AreTertiaries form (IsCasedTertiary form IsReachable)
cased_tertiaries WithoutCase IsReachable well_formed = well_formed
cased_tertiaries LowerFirst IsReachable well_formed = lower_cased IsReachable (IsCasedTertiary LowerFirst IsReachable) well_formed (λ w h. h)
cased_tertiaries UpperFirst IsReachable well_formed = upper_cased IsReachable (IsCasedTertiary UpperFirst IsReachable) well_formed (λ w h. h)
