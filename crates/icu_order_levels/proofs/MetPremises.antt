-- The premises can be met: a few weights of each level that do, with numbers on.
use Rattle.std.proofs.Common.{◌≡◌, ◌≢◌, ℕ, ◌/◌, ◌^◌, ◌<◌, ◌≤◌, true, ◌==◌, refl, sym, ap, ◌∙◌, subst, inl, inr, ◌⊎◌, arith, lit<, lit≤, Some}
use Rattle.icu_order_levels.specs.ListOrder.{IsBeginning}
use Rattle.icu_order_levels.specs.WeightBytes.{weight_bytes}
use Rattle.icu_order_levels.specs.Primaries.{Compression, lead, second_byte}
use Rattle.icu_order_levels.specs.Premises.{IsPrefixFree, AreSecondaries, forward_least, AreTertiaries, AreShifted, ArePrimaries}
use Rattle.icu_order_levels.specs.KeyPremises.{ReachableWeights, AreWeights}
use Rattle.icu_order_levels.specs.declared.forms.CaseForm.TheVariants.{LowerFirst}
use Rattle.icu_order_levels.specs.declared.forms.KeyForm.{KeyForm}
use Rattle.icu_order_levels.specs.declared.forms.QuaternaryForm.TheVariants.{MayShift}
use Rattle.icu_order_levels.specs.declared.forms.SecondaryForm.TheVariants.{Forward}
use Rattle.icu_order_levels.specs.declared.forms.TertiaryForm.TheVariants.{WithoutCase}

-- two weights of a level
abbrev either : ℕ → ℕ → ℕ → Type 0
either a b w = (w ≡ a) ⊎ (w ≡ b)

-- what holds of both
of_either : (P : ℕ → Type 0) (a b : ℕ) → P a → P b → (w : ℕ) → either a b w → P w
of_either P a b p q w h = by h
  where
    by : (w ≡ a) ⊎ (w ≡ b) → P w
    by (inl e) = subst P (sym e) p
    by (inr e) = subst P (sym e) q

-- neither begins the other
free : (k a b : ℕ) → (IsBeginning (weight_bytes k a) (weight_bytes k b) → ⊥) → (IsBeginning (weight_bytes k b) (weight_bytes k a) → ⊥)
    → IsPrefixFree (weight_bytes k) (either a b)
free k a b f g v w p q n h = by p q
  where
    by : (v ≡ a) ⊎ (v ≡ b) → (w ≡ a) ⊎ (w ≡ b) → ⊥
    by (inl e) (inl i) = n (e ∙ sym i)
    by (inl e) (inr i) =
        f (subst (λ z. IsBeginning (weight_bytes k z) (weight_bytes k b)) e
        (subst (λ z. IsBeginning (weight_bytes k v) (weight_bytes k z)) i h))
    by (inr e) (inl i) =
        g (subst (λ z. IsBeginning (weight_bytes k z) (weight_bytes k a)) e
        (subst (λ z. IsBeginning (weight_bytes k v) (weight_bytes k z)) i h))
    by (inr e) (inr i) = n (e ∙ sym i)

-- ---- primaries: a letter and the merge separator; 61 is compressible and 0F numeric
abbrev unmoved : Compression
unmoved = record { reorder = λ p. p; is_compressible = λ l. l == 0x61 }

abbrev some_primaries : ℕ → Type 0
some_primaries = either 0x61100000 0x02000000

some_alike : (v w : ℕ) → some_primaries v → some_primaries w → lead v ≡ lead w → (lead v == 0x61) ≡ (lead w == 0x61)
some_alike v w p q e = ap (λ l. l == 0x61) e

primaries_met : ArePrimaries unmoved 0x0F some_primaries
primaries_met = record {
  reordered_fits = λ w l. l;
  lead_alone = λ w l. refl;
  fits = of_either (λ w. w < 256 ^ 4) 0x61100000 0x02000000 (lit< tt) (lit< tt);
  leads = of_either (λ w. 2 ≤ lead w) 0x61100000 0x02000000 (lit≤ tt) (lit≤ tt);
  separator = of_either (λ w. lead w ≡ 2 → w ≡ 0x02000000) 0x61100000 0x02000000 (λ e. absurd (omega arith)) (λ e. refl);
  prefix_free = free 4 0x61100000 0x02000000 (λ h. omega (arith, h.0)) (λ h. omega (arith, h.0));
  seconds =
      of_either (λ w. (lead w == 0x61) ≡ true → (4 ≤ second_byte w) × (second_byte w ≤ 0xFE)) 0x61100000 0x02000000
      (λ e. (lit≤ tt, lit≤ tt)) (λ e. absurd (cc));
  alike = some_alike;
  not_numeric = of_either (λ w. lead w ≢ 0x0F) 0x61100000 0x02000000 (λ e. omega arith) (λ e. omega arith);
  numbers_together = λ w l e. e;
  numbers_apart = of_either (λ w. lead w ≢ 0x0F) 0x61100000 0x02000000 (λ e. omega arith) (λ e. omega arith);
  numbers_high = lit≤ tt;
  numbers_whole = refl;
}

-- ---- secondaries: the common one and a diacritic
secondaries_met : AreSecondaries forward_least (either 0x0500 0x4600)
secondaries_met = record {
  fits = of_either (λ w. w < 2 ^ 16) 0x0500 0x4600 (lit< tt) (lit< tt);
  leads =
      of_either (λ w. (w ≡ 0x500) ⊎ (((2 ≤ w / 256) × (w / 256 ≤ 4)) ⊎ (0x46 ≤ w / 256))) 0x0500 0x4600 (inl refl) (inr (inr (lit≤ tt)));
  prefix_free = free 2 0x0500 0x4600 (λ h. omega (arith, h.0)) (λ h. omega (arith, h.0));
}

-- ---- tertiaries: the common one and another
tertiaries_met : AreTertiaries WithoutCase (either 0x0500 0x1C00)
tertiaries_met = record {
  least = of_either (λ w. 2 ≤ w / 256) 0x0500 0x1C00 (lit≤ tt) (lit≤ tt);
  greatest = of_either (λ w. w / 256 ≤ 0x3F) 0x0500 0x1C00 (lit≤ tt) (lit≤ tt);
  leads = of_either (λ w. w ≢ 0x500 → w / 256 ≢ 5) 0x0500 0x1C00 (λ n e. n refl) (λ n e. omega arith);
  prefix_free = free 2 0x0500 0x1C00 (λ h. omega (arith, h.0)) (λ h. omega (arith, h.0));
}

-- ---- shifted primaries: two marks of punctuation
shifted_met : AreShifted (either 0x03100000 0x04100000)
shifted_met = record {
  fits = of_either (λ w. w < 256 ^ 4) 0x03100000 0x04100000 (lit< tt) (lit< tt);
  leads = of_either (λ w. 2 ≤ lead w) 0x03100000 0x04100000 (lit≤ tt) (lit≤ tt);
  prefix_free = free 4 0x03100000 0x04100000 (λ h. omega (arith, h.0)) (λ h. omega (arith, h.0));
}

-- ---- a key of all six levels
abbrev some_weights : ReachableWeights
some_weights =
    record {
      primary = some_primaries;
      secondary = either 0x0500 0x4600;
      tertiary = either 0x0500 0x1C00;
      shifted_primary = either
          0x03100000 0x04100000;
      numeric = 0x0F;
    }

abbrev whole_form : KeyForm
whole_form = record { secondary = Some Forward; cases = Some LowerFirst; tertiary = Some WithoutCase; quaternary = Some MayShift; identical = true }

weights_met : AreWeights unmoved whole_form some_weights
weights_met = record { primaries = primaries_met; secondaries = secondaries_met; tertiaries = tertiaries_met; quaternaries = shifted_met }
