-- The weights that well-formed tables give are as a key of each form asks.
use Rattle.std.proofs.Common.{◌≡◌, ℕ, ◌/◌, ◌≤◌, Bool, true, false, cond, refl, subst, inl, inr, ◌⊎◌, arith, Option, Some, None}
use Rattle.icu_order_levels.specs.Premises.{AreSecondaries, AreTertiaries, AreShifted, forward_least, backward_least}
use Rattle.icu_order_levels.specs.KeyPremises.{AreWeights, SecondaryWeights, TertiaryWeights, QuaternaryWeights}
use Rattle.icu_order_levels.specs.declared.forms.SecondaryForm.{SecondaryForm}
use Rattle.icu_order_levels.specs.declared.forms.SecondaryForm.TheVariants.{Forward, Backward}
use Rattle.icu_order_levels.specs.declared.forms.TertiaryForm.{TertiaryForm}
use Rattle.icu_order_levels.specs.declared.forms.QuaternaryForm.{QuaternaryForm}
use Rattle.icu_order_levels.specs.declared.forms.QuaternaryForm.TheVariants.{MayShift, Unshifted}
use Rattle.icu_order_levels.specs.declared.forms.KeyForm.{KeyForm}
use Rattle.icu_table_provider.specs.CollatorTables.{CollatorTables, is_forward}
use Rattle.icu_table_provider.specs.well_formed.WellFormedTables.{IsWellFormedTables}
use Rattle.icu_order_texts.specs.weighting.Forms.{compression_of}
use Rattle.icu_order_texts.specs.ReachableWeights.{IsReachableSecondary, IsShiftedPrimary, IsReachableTertiary, IsTertiaryOf, reachable_weights}
use Rattle.icu_order_texts.proofs.PrimaryWeights.{reachable_primaries, reachable_shifted}
use Rattle.icu_order_texts.proofs.SecondaryWeights.{reachable_secondaries}
use Rattle.icu_order_texts.proofs.TertiaryWeights.{reachable_tertiaries}

-- a greater least lead is a lesser one
more_leads : (w : ℕ) → (w ≡ 0x500) ⊎ (((backward_least ≤ w / 256) × (w / 256 ≤ 4)) ⊎ (0x46 ≤ w / 256))
    → (w ≡ 0x500) ⊎ (((forward_least ≤ w / 256) × (w / 256 ≤ 4)) ⊎ (0x46 ≤ w / 256))
more_leads w (inl e) = inl e
more_leads w (inr (inl p)) = inr (inl (omega (arith, p.0), p.1))
more_leads w (inr (inr p)) = inr (inr p)

-- secondaries of tables that are compared forward, or backward, may stand in a forward level
forward_secondaries : (b : Bool) (IsReachable : ℕ → Type 0) → AreSecondaries (cond b forward_least backward_least) IsReachable
    → AreSecondaries forward_least IsReachable
forward_secondaries true IsReachable well_formed = well_formed
forward_secondaries false IsReachable well_formed =
    record { fits = well_formed.fits; leads = λ w h. more_leads w (well_formed.leads w h); prefix_free = well_formed.prefix_free }

secondaries_of : (b : Bool) (IsReachable : ℕ → Type 0) (f : Option SecondaryForm) → (f ≡ Some Backward → b ≡ false)
    → AreSecondaries (cond b forward_least backward_least) IsReachable → SecondaryWeights f IsReachable
secondaries_of b IsReachable None fits well_formed = tt
secondaries_of b IsReachable (Some Forward) fits well_formed = forward_secondaries b IsReachable well_formed
secondaries_of b IsReachable (Some Backward) fits well_formed =
    subst (λ (c : Bool). AreSecondaries (cond c forward_least backward_least) IsReachable) (fits refl) well_formed

tertiaries_of : (all : CollatorTables) (f : Option TertiaryForm) → ((form : TertiaryForm) → AreTertiaries form (IsReachableTertiary all form))
    → TertiaryWeights f (IsTertiaryOf all f)
tertiaries_of all None well_formed = tt
tertiaries_of all (Some form) well_formed = well_formed form

quaternaries_of : (IsReachable : ℕ → Type 0) (f : Option QuaternaryForm) → AreShifted IsReachable → QuaternaryWeights f IsReachable
quaternaries_of IsReachable None well_formed = tt
quaternaries_of IsReachable (Some MayShift) well_formed = well_formed
quaternaries_of IsReachable (Some Unshifted) well_formed = tt

-- ---- all levels

pub weights_reachable : (all : CollatorTables) → IsWellFormedTables all → (f : KeyForm) → (f.secondary ≡ Some Backward → is_forward all ≡ false)
    → AreWeights (compression_of all) f (reachable_weights all f)
weights_reachable all well_formed f fits = record {
  primaries = reachable_primaries all well_formed;
  secondaries = secondaries_of (is_forward all) (IsReachableSecondary all) f.secondary fits (reachable_secondaries all well_formed);
  tertiaries = tertiaries_of all f.tertiary (reachable_tertiaries all well_formed);
  quaternaries = quaternaries_of (IsShiftedPrimary all) f.quaternary (reachable_shifted all well_formed);
}
