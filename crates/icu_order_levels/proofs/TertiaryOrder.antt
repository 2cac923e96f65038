-- The tertiary level's bytes order as its lists, in each form.
use Rattle.std.proofs.Common.{◌≡◌, ℕ, ◌+◌, ◌-◌, ◌/◌, ◌<◌, List, ◌++◌, refl, ◌∙◌, arith, lit<, inl, inr, ◌⊎◌, ltb}
use Rattle.std.proofs.lemmas.Bool.{cases_order, lt-ltb, le-ltb, cond-true, cond-false}
use Rattle.std.specs.List.{AllByRecursion}
use Rattle.std.specs.Ordering.{ordering_then}
use Rattle.icu_order_levels.specs.ListOrder.{list_order, IsUnder}
use Rattle.icu_order_levels.specs.Runs.{AreRunBytes, IsSpelling}
use Rattle.icu_order_levels.specs.Tertiaries.{tertiary_runs, raised_above, lowered_below, moved_tertiary, tertiary_bytes, tertiary_level}
use Rattle.icu_order_levels.specs.Premises.{AreTertiaries}
use Rattle.icu_order_levels.proofs.LevelOrder.{level_order}
use Rattle.icu_order_levels.proofs.MovedWeights.{IsMove, moved_spelling}
use Rattle.icu_order_levels.specs.declared.forms.TertiaryForm.{TertiaryForm}
use Rattle.icu_order_levels.specs.declared.forms.TertiaryForm.TheVariants.{LowerFirst, UpperFirst, WithoutCase}

pub tertiary_runs_fit : (form : TertiaryForm) → AreRunBytes (tertiary_runs form)
tertiary_runs_fit WithoutCase = record { some = lit< tt; to_middle = refl; to_high = refl }
tertiary_runs_fit LowerFirst = record { some = lit< tt; to_middle = refl; to_high = refl }
tertiary_runs_fit UpperFirst = record { some = lit< tt; to_middle = refl; to_high = refl }

-- the lead of the common weight
abbrev common_lead : TertiaryForm → ℕ
common_lead form = (tertiary_runs form).common / 256

moved_high : (form : TertiaryForm) (w : ℕ) → common_lead form < w / 256 → moved_tertiary form w ≡ w + raised_above form
moved_high form w l = cond-true (ltb (common_lead form) (w / 256)) _ _ (lt-ltb (common_lead form) (w / 256) l)

moved_low : (form : TertiaryForm) (w : ℕ) → w / 256 < common_lead form → moved_tertiary form w ≡ w - lowered_below form
moved_low form w l =
    cond-false (ltb (common_lead form) (w / 256)) _ _ (le-ltb (common_lead form) (w / 256) (omega arith))
    ∙ cond-true (ltb (w / 256) (common_lead form)) _ _ (lt-ltb (w / 256) (common_lead form) l)

unmoved : (form : TertiaryForm) (w : ℕ) → w / 256 ≡ common_lead form → moved_tertiary form w ≡ w
unmoved form w e =
    cond-false (ltb (common_lead form) (w / 256)) _ _ (le-ltb (common_lead form) (w / 256) (omega arith))
    ∙ cond-false (ltb (w / 256) (common_lead form)) _ _ (le-ltb (w / 256) (common_lead form) (omega arith))

-- where a moved weight stands, by the side of the common weight on which it was
abbrev IsMoved : TertiaryForm → ℕ → Type 0
IsMoved form w =
    ((w / 256 < common_lead form) × (moved_tertiary form w ≡ w - lowered_below form))
    ⊎ (((w / 256 ≡ common_lead form) × (moved_tertiary form w ≡ w))
    ⊎ ((common_lead form < w / 256) × (moved_tertiary form w ≡ w + raised_above form)))

is_moved : (form : TertiaryForm) (w : ℕ) → IsMoved form w
is_moved form w = by (cases_order (w / 256) (common_lead form))
  where
    by : (w / 256 ≡ common_lead form) ⊎ ((w / 256 < common_lead form) ⊎ (common_lead form < w / 256)) → IsMoved form w
    by (inl e) = inr (inl (e, unmoved form w e))
    by (inr (inl l)) = inl (l, moved_low form w l)
    by (inr (inr l)) = inr (inr (l, moved_high form w l))

module _ (IsReachable : ℕ → Type 0) where
  moves : (form : TertiaryForm) → AreTertiaries form IsReachable → IsMove (tertiary_runs form) 1 (moved_tertiary form) IsReachable
  moves WithoutCase well_formed = record {
    low =
        λ w p l. (
          omega (arith, is_moved WithoutCase w, well_formed.least w p, well_formed.leads w p),
          omega
              (arith, is_moved WithoutCase w, well_formed.least w p, well_formed.leads w p),
        );
    high = λ w p l. omega (arith, is_moved WithoutCase w, well_formed.least w p, well_formed.leads w p);
    fits = λ w p. omega (arith, is_moved WithoutCase w, well_formed.greatest w p);
    leads = λ w p. omega (arith, well_formed.least w p);
    moved_leads = λ w p. omega (arith, is_moved WithoutCase w, well_formed.least w p);
    rest = λ w p. omega (arith, is_moved WithoutCase w, well_formed.least w p);
    rises = λ v w p q nv nw l. omega (arith, is_moved WithoutCase v, is_moved WithoutCase w, well_formed.least v p);
    one_lead =
        λ v w p q nv nw e. omega (
          arith,
          is_moved WithoutCase v,
          is_moved WithoutCase w,
          well_formed.least v p,
          well_formed.least w q,
          well_formed.greatest v p,
          well_formed.greatest w q,
          well_formed.leads v p
              nv,
          well_formed.leads w q nw,
        );
  }
  moves LowerFirst well_formed = record {
    low =
        λ w p l. (
          omega (arith, is_moved LowerFirst w, well_formed.least w p, well_formed.leads w p),
          omega
              (arith, is_moved LowerFirst w, well_formed.least w p, well_formed.leads w p),
        );
    high = λ w p l. omega (arith, is_moved LowerFirst w, well_formed.least w p, well_formed.leads w p);
    fits = λ w p. omega (arith, is_moved LowerFirst w, well_formed.greatest w p);
    leads = λ w p. omega (arith, well_formed.least w p);
    moved_leads = λ w p. omega (arith, is_moved LowerFirst w, well_formed.least w p);
    rest = λ w p. omega (arith, is_moved LowerFirst w, well_formed.least w p);
    rises = λ v w p q nv nw l. omega (arith, is_moved LowerFirst v, is_moved LowerFirst w, well_formed.least v p);
    one_lead = λ v w p q nv nw e. omega (
      arith,
      is_moved LowerFirst v,
      is_moved LowerFirst w,
      well_formed.least v p,
      well_formed.least w q,
      well_formed.greatest v p,
      well_formed.greatest w q,
      well_formed.leads v p nv,
      well_formed.leads w q nw,
    );
  }
  moves UpperFirst well_formed = record {
    low =
        λ w p l. (
          omega (arith, is_moved UpperFirst w, well_formed.least w p, well_formed.leads w p),
          omega
              (arith, is_moved UpperFirst w, well_formed.least w p, well_formed.leads w p),
        );
    high = λ w p l. omega (arith, is_moved UpperFirst w, well_formed.least w p, well_formed.leads w p);
    fits = λ w p. omega (arith, is_moved UpperFirst w, well_formed.greatest w p);
    leads = λ w p. omega (arith, well_formed.least w p);
    moved_leads = λ w p. omega (arith, is_moved UpperFirst w, well_formed.least w p);
    rest = λ w p. omega (arith, is_moved UpperFirst w, well_formed.least w p);
    rises = λ v w p q nv nw l. omega (arith, is_moved UpperFirst v, is_moved UpperFirst w, well_formed.least v p);
    one_lead = λ v w p q nv nw e. omega (
      arith,
      is_moved UpperFirst v,
      is_moved UpperFirst w,
      well_formed.least v p,
      well_formed.least w q,
      well_formed.greatest v p,
      well_formed.greatest w q,
      well_formed.leads v p nv,
      well_formed.leads w q nw,
    );
  }

  end_below : (form : TertiaryForm) → 1 < (tertiary_runs form).low
  end_below WithoutCase = lit< tt
  end_below LowerFirst = lit< tt
  end_below UpperFirst = lit< tt

  pub tertiaries_fit : (form : TertiaryForm) → AreTertiaries form IsReachable → IsSpelling (tertiary_runs form) 1 (tertiary_bytes form) IsReachable
  tertiaries_fit form well_formed =
      moved_spelling (tertiary_runs form) 1 (moved_tertiary form) IsReachable (end_below form) (moves form well_formed) well_formed.prefix_free

  pub tertiary_order : (form : TertiaryForm) → AreTertiaries form IsReachable → (vs ws s t : List ℕ) → AllByRecursion IsReachable vs
      → AllByRecursion IsReachable ws → IsUnder 2 s → IsUnder 2 t
      → list_order (tertiary_level form vs ++ s) (tertiary_level form ws ++ t) ≡ ordering_then (list_order vs ws) (list_order s t)
  tertiary_order form well_formed vs ws s t p q u v =
      level_order (tertiary_runs form) (tertiary_runs_fit form) (tertiary_bytes form) 1 IsReachable (tertiaries_fit form well_formed) vs ws s t p q u v
