-- Common weights add few bytes to a level.
use Rattle.std.proofs.Common.{eq-eqb, ◌≡◌, ◌≢◌, ℕ, zero, suc, ◌+◌, ◌-◌, ◌/◌, ◌%◌, ◌^◌, ◌<◌, ◌≤◌, ◌==◌, ◌&&◌, Bool, true, false, if◌then◌else◌, List, [], ◌∷◌, ◌++◌, length, length-append, replicate, refl, ap, ◌∙◌, subst, inl, inr, ◌⊎◌, arith}
use Rattle.std.proofs.lemmas.Bool.{cases_eq, cases_lt}
use Rattle.std.proofs.lemmas.List.{length-replicate}
use Rattle.icu_order_levels.specs.Cases.{is_only}
use Rattle.icu_order_levels.specs.Quaternaries.{quaternary_bytes, quaternary_runs, quaternary_level}
use Rattle.icu_order_levels.specs.Runs.{run_before_less, run_before_more, run_before, level_bytes}
use Rattle.icu_order_levels.specs.declared.forms.QuaternaryForm.{QuaternaryForm}
use Rattle.icu_order_levels.specs.declared.forms.QuaternaryForm.TheVariants.{MayShift, Unshifted}
use Rattle.icu_order_levels.specs.declared.run_bytes.RunBytes.{RunBytes}
use Rattle.icu_order_levels.specs.declared.run_bytes.TheConstants.{QUATERNARY_RUNS}
use Rattle.icu_order_levels.proofs.LevelOrder.{level_common, level_other, run_less, not_less}
use Rattle.icu_order_levels.proofs.RunLengths.{runs_short}
use Rattle.icu_order_texts.specs.text_laws.RunLengthLaws.{CommonWeightsAddFew}

-- whole counts of two numbers and one more are as many as those of their sum at least
abbrev pub CountsAdd : ℕ → Type 0
CountsAdd count = (n k : ℕ) → (n + k) / count ≤ n / count + k / count + 1

module _ (r : RunBytes) (some : 0 < r.count) (add : CountsAdd r.count) where
  -- a run's bytes before a lesser weight or the end, and before a greater one
  less_length : (m : ℕ) → length (run_before_less r (suc m)) ≡ m / r.count + 1
  less_length m =
      omega (arith, length-append (replicate (m / r.count) r.middle) ((r.low + m % r.count) ∷ []), length-replicate (m / r.count) r.middle)

  more_length : (m : ℕ) → length (run_before_more r (suc m)) ≡ m / r.count + 1
  more_length m =
      omega (arith, length-append (replicate (m / r.count) r.middle) ((r.high - m % r.count) ∷ []), length-replicate (m / r.count) r.middle)

  less_grows : (n m : ℕ) → length (run_before_less r (n + m)) ≤ length (run_before_less r m) + (1 + n / r.count)
  less_grows n zero =
      let e : n + 0 ≡ n = omega arith in
      let short : length (run_before_less r n) ≤ 1 + n / r.count = (runs_short r some n 0).0 in
      rw e (omega (arith, short))
  less_grows n (suc m) =
      let e : n + suc m ≡ suc (n + m) = omega arith in
      rw e (omega (arith, less_length (n + m), less_length m, add n m))

  more_grows : (n m : ℕ) → length (run_before_more r (n + m)) ≤ length (run_before_more r m) + (1 + n / r.count)
  more_grows n zero =
      let e : n + 0 ≡ n = omega arith in
      let short : length (run_before r n r.common) ≤ 1 + n / r.count = (runs_short r some n r.common).1 in
      let high : length (run_before_more r n) ≤ 1 + n / r.count = subst (λ bs. length bs ≤ 1 + n / r.count) (not_less r n r.common (omega arith)) short in
      rw e (omega (arith, high))
  more_grows n (suc m) =
      let e : n + suc m ≡ suc (n + m) = omega arith in
      rw e (omega (arith, more_length (n + m), more_length m, add n m))

  run_grows : (n m w : ℕ) → length (run_before r (n + m) w) ≤ length (run_before r m w) + (1 + n / r.count)
  run_grows n m w = by (cases_lt w r.common)
    where
      by : (w < r.common) ⊎ (r.common ≤ w) → length (run_before r (n + m) w) ≤ length (run_before r m w) + (1 + n / r.count)
      by (inl l) = rw (run_less r (n + m) w l, run_less r m w l) (less_grows n m)
      by (inr l) = rw (not_less r (n + m) w l, not_less r m w l) (more_grows n m)

  module _ (spell : ℕ → List ℕ) where
    abbrev level : ℕ → List ℕ → List ℕ
    level = level_bytes r spell

    same_end : (xs ys zs : List ℕ) (k : ℕ) → length xs ≤ length ys + k → length (xs ++ zs) ≤ length (ys ++ zs) + k
    same_end xs ys zs k h = omega (arith, length-append xs zs, length-append ys zs)

    same_front : (xs ys zs : List ℕ) (k : ℕ) → length ys ≤ length zs + k → length (xs ++ ys) ≤ length (xs ++ zs) + k
    same_front xs ys zs k h = omega (arith, length-append xs ys, length-append xs zs)

    -- n more common weights directly before a list
    more_before : (n m : ℕ) (ws : List ℕ) → length (level (n + m) ws) ≤ length (level m ws) + (1 + n / r.count)
    more_before n m [] = less_grows n m
    more_before n m (w ∷ ws) = by (cases_eq w r.common) (more_before n (suc m) ws)
      where
        by : (w ≡ r.common) ⊎ (w ≢ r.common) → length (level (n + suc m) ws) ≤ length (level (suc m) ws) + (1 + n / r.count)
            → length (level (n + m) (w ∷ ws)) ≤ length (level m (w ∷ ws)) + (1 + n / r.count)
        by (inl e) ih =
            let k : n + suc m ≡ suc (n + m) = omega arith in
            rw (level_common r spell (n + m) w ws e, level_common r spell m w ws e) (subst (λ z. length (level z ws) ≤ length (level (suc m) ws) + (1 + n / r.count)) k ih)
        by (inr e) ih =
            rw (level_other r spell (n + m) w ws e, level_other r spell m w ws e)
            (same_end (run_before r (n + m) w) (run_before r m w) (spell w ++ level 0 ws) (1 + n / r.count) (run_grows n m w))

    counted : (n k : ℕ) (ws : List ℕ) → level k (replicate n r.common ++ ws) ≡ level (n + k) ws
    counted zero k ws = ap (λ z. level z ws) (omega arith)
    counted (suc n) k ws =
        level_common r spell k r.common (replicate n r.common ++ ws) refl ∙ (counted n (suc k) ws ∙ ap (λ z. level z ws) (omega arith))

    -- and anywhere in it
    add_few : (n m : ℕ) (us ws : List ℕ)
        → length (level m (us ++ (replicate n r.common ++ ws))) ≤ length (level m (us ++ ws)) + (1 + n / r.count)
    add_few n m [] ws = rw (counted n m ws) (more_before n m ws)
    add_few n m (u ∷ us) ws = by (cases_eq u r.common) (add_few n (suc m) us ws) (add_few n 0 us ws)
      where
        by : (u ≡ r.common) ⊎ (u ≢ r.common)
            → length (level (suc m) (us ++ (replicate n r.common ++ ws))) ≤ length (level (suc m) (us ++ ws)) + (1 + n / r.count)
            → length (level 0 (us ++ (replicate n r.common ++ ws))) ≤ length (level 0 (us ++ ws)) + (1 + n / r.count)
            → length (level m (u ∷ (us ++ (replicate n r.common ++ ws)))) ≤ length (level m (u ∷ (us ++ ws))) + (1 + n / r.count)
        by (inl e) common other =
            rw (level_common r spell m u (us ++ (replicate n r.common ++ ws)) e, level_common r spell m u (us ++ ws) e) common
        by (inr e) common other =
            rw (level_other r spell m u (us ++ (replicate n r.common ++ ws)) e, level_other r spell m u (us ++ ws) e)
            (same_front (run_before r m u) _ _ _ (same_front (spell u) (level 0 (us ++ (replicate n r.common ++ ws))) (level 0 (us ++ ws)) (1 + n / r.count) other))

    pub commons_add : CommonWeightsAddFew (level 0) r.common r.count
    commons_add n before after = add_few n 0 before after

-- ---- quaternaries

-- a list is of common weights alone without some of them exactly if it is with them
only_without : (common n : ℕ) (us ws : List ℕ) → is_only common (us ++ (replicate n common ++ ws)) ≡ is_only common (us ++ ws)
only_without common zero [] ws = refl
only_without common (suc n) [] ws = only_again common (replicate n common ++ ws) ∙ only_without common n [] ws
  where
    only_again : (c : ℕ) (xs : List ℕ) → is_only c (c ∷ xs) ≡ is_only c xs
    only_again c xs = rw (same c) refl
      where
        same : (c : ℕ) → (c == c) ≡ true
        same c = eq-eqb c c refl
only_without common n (u ∷ us) ws = ap (λ b. (u == common) && b) (only_without common n us ws)

few_unless : (b : Bool) (xs ys : List ℕ) (k : ℕ) → length xs ≤ length ys + k
    → length (if b then [] else xs) ≤ length (if b then [] else ys) + k
few_unless true xs ys k h = omega arith
few_unless false xs ys k h = h

add_hundreds : CountsAdd 113
add_hundreds n k = omega arith

pub quaternaries_add : (form : QuaternaryForm) → CommonWeightsAddFew (quaternary_level form) QUATERNARY_RUNS.common 113
quaternaries_add MayShift = commons_add QUATERNARY_RUNS (omega arith) add_hundreds quaternary_bytes
quaternaries_add Unshifted = λ n before after.
    rw (only_without (2 ^ 32) n before after)
    (few_unless (is_only (2 ^ 32) (before ++ after)) (quaternary_runs (before ++ (replicate n (2 ^ 32) ++ after))) (quaternary_runs (before ++ after))
    (1 + n / 113) (commons_add QUATERNARY_RUNS (omega arith) add_hundreds quaternary_bytes n before after))

pub add_thirties : CountsAdd 33
add_thirties n k = omega arith

pub add_nineties : CountsAdd 97
add_nineties n k = omega arith
