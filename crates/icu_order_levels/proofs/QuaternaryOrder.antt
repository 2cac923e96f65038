-- The quaternary level's bytes order as its lists.
use Rattle.std.proofs.Common.{◌≡◌, ◌≢◌, ℕ, ◌+◌, ◌-◌, ◌%◌, ◌^◌, ◌<◌, ◌≤◌, List, [], ◌∷◌, ◌++◌, length, refl, arith, lit<, inl, inr, ◌⊎◌, ltb, Less}
use Rattle.std.proofs.lemmas.Bool.{cases_lt, lt-ltb, le-ltb, cond-true, cond-false}
use Rattle.std.specs.List.{AllByRecursion}
use Rattle.std.specs.Ordering.{ordering_then}
use Rattle.icu_order_levels.specs.ListOrder.{list_order, IsUnder, IsOver, Precedes}
use Rattle.icu_order_levels.specs.WeightBytes.{weight_bytes}
use Rattle.icu_order_levels.specs.Runs.{AreRunBytes, IsSpelling}
use Rattle.icu_order_levels.specs.Primaries.{lead}
use Rattle.icu_order_levels.specs.Quaternaries.{shifted_bytes, quaternary_bytes, quaternary_level}
use Rattle.icu_order_levels.specs.Premises.{AreShifted, IsUnshifted, IsQuaternary}
use Rattle.icu_order_levels.proofs.Order.{less_head}
use Rattle.icu_order_levels.proofs.WeightOrder.{weights_precede, over_first, under_first}
use Rattle.icu_order_levels.proofs.LevelOrder.{level_less, level_order}
use Rattle.icu_order_levels.proofs.PrecedesLemmas.{precedes_over, precedes_front}
use Rattle.icu_order_levels.proofs.OrNothing.{or_nothing_order}
use Rattle.icu_order_levels.specs.declared.run_bytes.TheConstants.{QUATERNARY_RUNS}
use Rattle.icu_order_levels.specs.declared.forms.QuaternaryForm.TheVariants.{MayShift, Unshifted}

pub quaternary_runs_fit : AreRunBytes QUATERNARY_RUNS
quaternary_runs_fit = record { some = lit< tt; to_middle = refl; to_high = refl }

above_bytes : (w : ℕ) → 2 ^ 32 < w → quaternary_bytes w ≡ (0xFC + w - 2 ^ 32) ∷ []
above_bytes w l = cond-true (ltb (2 ^ 32) w) _ _ (lt-ltb (2 ^ 32) w l)

below_bytes : (w : ℕ) → w ≤ 2 ^ 32 → quaternary_bytes w ≡ shifted_bytes w
below_bytes w l = cond-false (ltb (2 ^ 32) w) _ _ (le-ltb (2 ^ 32) w l)

low_lead : (w : ℕ) → lead w < 0x1B → shifted_bytes w ≡ weight_bytes 4 w
low_lead w l = cond-true (ltb (lead w) 0x1B) _ _ (lt-ltb (lead w) 0x1B l)

high_lead : (w : ℕ) → 0x1B ≤ lead w → shifted_bytes w ≡ 0x1B ∷ weight_bytes 4 w
high_lead w l = cond-false (ltb (lead w) 0x1B) _ _ (le-ltb (lead w) 0x1B l)

module _ (IsReachable : ℕ → Type 0) (well_formed : AreShifted IsReachable) where
  is_shifted : (w : ℕ) → IsQuaternary IsReachable w → w < 2 ^ 32 → IsReachable w
  is_shifted w (inl p) l = p
  is_shifted w (inr p) l = absurd (omega (arith, p.0))

  shifted_between : (w : ℕ) → IsReachable w → IsOver 1 (shifted_bytes w) × IsUnder 0x1C (shifted_bytes w)
  shifted_between w p = by (cases_lt (lead w) 0x1B)
    where
      by : (lead w < 0x1B) ⊎ (0x1B ≤ lead w) → IsOver 1 (shifted_bytes w) × IsUnder 0x1C (shifted_bytes w)
      by (inl l) = rw (low_lead w l) (
        over_first 1 (lead w) (weight_bytes 3 (w % 256 ^ 3)) (omega (arith, well_formed.leads w p)),
        under_first 0x1C (lead w)
            (weight_bytes 3 (w % 256 ^ 3)) (omega arith),
      )
      by (inr l) = rw (high_lead w l) (lit< tt, lit< tt)

  shifted_rise : (v w : ℕ) → IsReachable v → IsReachable w → v < w → Precedes (shifted_bytes v) (shifted_bytes w)
  shifted_rise v w p q l = by (cases_lt (lead v) 0x1B) (cases_lt (lead w) 0x1B)
    where
      full : Precedes (weight_bytes 4 v) (weight_bytes 4 w)
      full = weights_precede 4 v w (well_formed.fits w q) l (well_formed.prefix_free v w p q (omega arith))

      by : (lead v < 0x1B) ⊎ (0x1B ≤ lead v) → (lead w < 0x1B) ⊎ (0x1B ≤ lead w) → Precedes (shifted_bytes v) (shifted_bytes w)
      by (inl a) (inl b) = rw (low_lead v a, low_lead w b) full
      by (inl a) (inr b) = rw (low_lead v a, high_lead w b)
          (precedes_over 0x1A (weight_bytes 4 v) (0x1B ∷ weight_bytes 4 w)
          (over_first 0 (lead v) (weight_bytes 3 (v % 256 ^ 3)) (omega (arith, well_formed.leads v p)))
          (under_first 0x1B (lead v) (weight_bytes 3 (v % 256 ^ 3)) a) (lit< tt))
      by (inr a) (inl b) = absurd (omega arith)
      by (inr a) (inr b) = rw (high_lead v a, high_lead w b) (precedes_front (0x1B ∷ []) (weight_bytes 4 v) (weight_bytes 4 w) full)

  pub quaternaries_fit : IsSpelling QUATERNARY_RUNS 1 quaternary_bytes (IsQuaternary IsReachable)
  quaternaries_fit = record {
    end_below = lit< tt;
    below = λ w p l. rw (below_bytes w (omega arith)) (shifted_between w (is_shifted w p l));
    above = λ w p l. rw (above_bytes w l) (omega arith);
    apart = λ v w p q nv nw l. apart v w p q nv nw l (cases_lt v (2 ^ 32)) (cases_lt w (2 ^ 32));
  }
    where
      apart : (v w : ℕ) → IsQuaternary IsReachable v → IsQuaternary IsReachable w → v ≢ 2 ^ 32 → w ≢ 2 ^ 32 → v < w → (v < 2 ^ 32) ⊎ (2 ^ 32 ≤ v)
          → (w < 2 ^ 32) ⊎ (2 ^ 32 ≤ w)
          → Precedes (quaternary_bytes v) (quaternary_bytes w)
      apart v w p q nv nw l (inl a) (inl b) =
          rw (below_bytes v (omega arith), below_bytes w (omega arith)) (shifted_rise v w (is_shifted v p a) (is_shifted w q b) l)
      apart v w p q nv nw l (inl a) (inr b) = let f = shifted_between v (is_shifted v p a) in
          rw (below_bytes v (omega arith), above_bytes w (omega arith))
          (precedes_over 0x1B (shifted_bytes v) ((0xFC + w - 2 ^ 32) ∷ []) (over_zero (shifted_bytes v) f.0) f.1 (omega arith))
        where
          over_zero : (xs : List ℕ) → IsOver 1 xs → IsOver 0 xs
          over_zero [] u = absurd u
          over_zero (x ∷ xs) u = omega arith
      apart v w p q nv nw l (inr a) (inl b) = absurd (omega arith)
      apart v w p q nv nw l (inr a) (inr b) =
          rw (above_bytes v (omega arith), above_bytes w (omega arith))
          (λ s t. less_head (0xFC + v - 2 ^ 32) (0xFC + w - 2 ^ 32) s t (omega arith))

  pub quaternary_order : (vs ws s t : List ℕ) → AllByRecursion (IsQuaternary IsReachable) vs → AllByRecursion (IsQuaternary IsReachable) ws
      → IsUnder 2 s → IsUnder 2 t
      → list_order (quaternary_level MayShift vs ++ s) (quaternary_level MayShift ws ++ t) ≡ ordering_then (list_order vs ws) (list_order s t)
  quaternary_order vs ws s t p q u v =
      level_order QUATERNARY_RUNS quaternary_runs_fit quaternary_bytes 1 (IsQuaternary IsReachable) quaternaries_fit vs ws s t p q u v

-- where no primary is shifted
abbrev NoPrimary : ℕ → Type 0
NoPrimary w = ⊥

none_shifted : AreShifted NoPrimary
none_shifted = record { fits = λ w p. absurd p; leads = λ w p. absurd p; prefix_free = λ v w p q n b. absurd p }

unshifted_all : (ws : List ℕ) → AllByRecursion IsUnshifted ws → AllByRecursion (IsQuaternary NoPrimary) ws
unshifted_all [] p = tt
unshifted_all (w ∷ ws) p = (inr p.0, unshifted_all ws p.1)

unshifted_less : (vs ws s t : List ℕ) → AllByRecursion IsUnshifted vs → AllByRecursion IsUnshifted ws → IsUnder 2 s → list_order vs ws
    ≡ Less
    → list_order (quaternary_level MayShift vs ++ s) (quaternary_level MayShift ws ++ t) ≡ Less
unshifted_less vs ws s t p q u h =
    level_less QUATERNARY_RUNS quaternary_runs_fit quaternary_bytes 1 (IsQuaternary NoPrimary) (quaternaries_fit NoPrimary none_shifted) vs ws 0 s t
    (unshifted_all vs p) (unshifted_all ws q) u h

-- lists as long
pub unshifted_order : (vs ws s t : List ℕ) → AllByRecursion IsUnshifted vs → AllByRecursion IsUnshifted ws → IsUnder 2 s → IsUnder 2 t
    → length vs ≡ length ws
    → list_order (quaternary_level Unshifted vs ++ s) (quaternary_level Unshifted ws ++ t)
    ≡ ordering_then (list_order vs ws) (list_order s t)
unshifted_order = or_nothing_order (2 ^ 32) IsUnshifted (λ w p. p.0) (quaternary_level MayShift) refl unshifted_less
