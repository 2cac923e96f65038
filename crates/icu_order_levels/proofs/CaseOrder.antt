-- The case level's bytes order as its lists, lower and upper case first.
use Rattle.std.proofs.Common.{◌≡◌, ℕ, zero, suc, ◌+◌, ◌-◌, ◌/◌, ◌%◌, ◌<◌, List, [], ◌∷◌, ◌++◌, length, replicate, refl, sym, ap, ◌∙◌, subst, arith, lit<, inl, inr, ◌⊎◌, Less}
use Rattle.std.proofs.lemmas.Bool.{cases_order}
use Rattle.std.proofs.lemmas.Nat.{mod_below}
use Rattle.std.specs.List.{AllByRecursion}
use Rattle.std.specs.Ordering.{ordering_then}
use Rattle.icu_order_levels.specs.declared.run_bytes.RunBytes.{RunBytes}
use Rattle.icu_order_levels.specs.ListOrder.{list_order, IsUnder}
use Rattle.icu_order_levels.specs.Runs.{AreRunBytes, IsSpelling, run_before_less, run_before_more, level_bytes}
use Rattle.icu_order_levels.specs.Cases.{packed, case_nibbles, case_level}
use Rattle.icu_order_levels.specs.Premises.{IsRank}
use Rattle.icu_order_levels.proofs.Order.{less_head, keeps_order}
use Rattle.icu_order_levels.proofs.LevelOrder.{level_common, level_other, run_less, run_more}
use Rattle.icu_order_levels.proofs.NibbleOrder.{nibbles_less}
use Rattle.icu_order_levels.proofs.OrNothing.{or_nothing_order}
use Rattle.icu_order_levels.specs.declared.run_bytes.TheConstants.{LOWER_FIRST_CASE_RUNS, UPPER_FIRST_CASE_RUNS}
use Rattle.icu_order_levels.specs.declared.forms.CaseForm.TheVariants.{LowerFirst, UpperFirst}

pub lower_first_runs_fit : AreRunBytes LOWER_FIRST_CASE_RUNS
lower_first_runs_fit = record { some = lit< tt; to_middle = refl; to_high = refl }

pub upper_first_runs_fit : AreRunBytes UPPER_FIRST_CASE_RUNS
upper_first_runs_fit = record { some = lit< tt; to_middle = refl; to_high = refl }

lower_first_fits : IsSpelling LOWER_FIRST_CASE_RUNS 0 (λ rank. (13 + rank) ∷ []) IsRank
lower_first_fits = record {
  end_below = lit< tt;
  below = λ w p l. absurd (omega arith);
  above = λ w p l. omega arith;
  apart = λ v w p q nv nw l s t. less_head (13 + v) (13 + w) s t (omega arith);
}

upper_first_fits : IsSpelling UPPER_FIRST_CASE_RUNS 0 (λ rank. (1 + rank) ∷ []) IsRank
upper_first_fits = record {
  end_below = lit< tt;
  below = λ w p l. (omega arith, omega arith);
  above = λ w p l. absurd (omega arith);
  apart = λ v w p q nv nw l s t. less_head (1 + v) (1 + w) s t (omega arith);
}

-- ---- nibbles are below 16
all_append : (xs ys : List ℕ) → AllByRecursion (λ n. n < 16) xs → AllByRecursion (λ n. n < 16) ys → AllByRecursion (λ n. n < 16) (xs ++ ys)
all_append [] ys p q = q
all_append (x ∷ xs) ys p q = (p.0, all_append xs ys p.1 q)

all_copies : (n x : ℕ) → x < 16 → AllByRecursion (λ n. n < 16) (replicate n x)
all_copies zero x l = tt
all_copies (suc n) x l = (l, all_copies n x l)

module _ (r : RunBytes) (ok : AreRunBytes r) (middle : r.middle < 16) where
  run_small : (n : ℕ) → AllByRecursion (λ n. n < 16) (run_before_less r n)
  run_small zero = tt
  run_small (suc m) = all_append (replicate (m / r.count) r.middle) ((r.low + m % r.count) ∷ []) (all_copies (m / r.count) r.middle middle)
      (let l = mod_below m r.count ok.some in let e = ok.to_middle in omega arith, tt)

  high_run_small : r.high < 16 → (n : ℕ) → AllByRecursion (λ n. n < 16) (run_before_more r n)
  high_run_small h zero = tt
  high_run_small h (suc m) =
      all_append (replicate (m / r.count) r.middle) ((r.high - m % r.count) ∷ []) (all_copies (m / r.count) r.middle middle)
      (omega arith, tt)

lower_first_small : (ws : List ℕ) (n : ℕ) → AllByRecursion IsRank ws
    → AllByRecursion (λ n. n < 16) (level_bytes LOWER_FIRST_CASE_RUNS (λ rank. (13 + rank) ∷ []) n ws)
lower_first_small [] n p = run_small LOWER_FIRST_CASE_RUNS lower_first_runs_fit (lit< tt) n
lower_first_small (w ∷ ws) n p = by (cases_order w 0) (λ k. lower_first_small ws k p.1)
  where
    by : (w ≡ 0) ⊎ ((w < 0) ⊎ (0 < w))
        → ((k : ℕ) → AllByRecursion (λ n. n < 16) (level_bytes LOWER_FIRST_CASE_RUNS (λ rank. (13 + rank) ∷ []) k ws))
        → AllByRecursion (λ n. n < 16) (level_bytes LOWER_FIRST_CASE_RUNS (λ rank. (13 + rank) ∷ []) n (w ∷ ws))
    by (inl e) ih =
        subst (AllByRecursion (λ n. n < 16)) (sym (level_common LOWER_FIRST_CASE_RUNS (λ rank. (13 + rank) ∷ []) n w ws e)) (ih (suc n))
    by (inr (inl l)) ih = absurd (omega arith)
    by (inr (inr l)) ih = subst (AllByRecursion (λ n. n < 16))
        (sym (level_other LOWER_FIRST_CASE_RUNS (λ rank. (13 + rank) ∷ []) n w ws (omega arith)
        ∙ ap (λ run. run ++ ((13 + w) ∷ level_bytes LOWER_FIRST_CASE_RUNS (λ rank. (13 + rank) ∷ []) 0 ws))
        (run_more LOWER_FIRST_CASE_RUNS n w l)))
        (all_append (run_before_more LOWER_FIRST_CASE_RUNS n) ((13 + w) ∷ level_bytes LOWER_FIRST_CASE_RUNS (λ rank. (13 + rank) ∷ []) 0 ws)
        (high_run_small LOWER_FIRST_CASE_RUNS lower_first_runs_fit (lit< tt) (lit< tt) n) (omega (arith, p.0), ih 0))

upper_first_small : (ws : List ℕ) (n : ℕ) → AllByRecursion IsRank ws
    → AllByRecursion (λ n. n < 16) (level_bytes UPPER_FIRST_CASE_RUNS (λ rank. (1 + rank) ∷ []) n ws)
upper_first_small [] n p = run_small UPPER_FIRST_CASE_RUNS upper_first_runs_fit (lit< tt) n
upper_first_small (w ∷ ws) n p = by (cases_order w 2) (λ k. upper_first_small ws k p.1)
  where
    by : (w ≡ 2) ⊎ ((w < 2) ⊎ (2 < w))
        → ((k : ℕ) → AllByRecursion (λ n. n < 16) (level_bytes UPPER_FIRST_CASE_RUNS (λ rank. (1 + rank) ∷ []) k ws))
        → AllByRecursion (λ n. n < 16) (level_bytes UPPER_FIRST_CASE_RUNS (λ rank. (1 + rank) ∷ []) n (w ∷ ws))
    by (inl e) ih =
        subst (AllByRecursion (λ n. n < 16)) (sym (level_common UPPER_FIRST_CASE_RUNS (λ rank. (1 + rank) ∷ []) n w ws e)) (ih (suc n))
    by (inr (inl l)) ih = subst (AllByRecursion (λ n. n < 16))
        (sym (level_other UPPER_FIRST_CASE_RUNS (λ rank. (1 + rank) ∷ []) n w ws (omega arith)
        ∙ ap (λ run. run ++ ((1 + w) ∷ level_bytes UPPER_FIRST_CASE_RUNS (λ rank. (1 + rank) ∷ []) 0 ws))
        (run_less UPPER_FIRST_CASE_RUNS n w l)))
        (all_append (run_before_less UPPER_FIRST_CASE_RUNS n) ((1 + w) ∷ level_bytes UPPER_FIRST_CASE_RUNS (λ rank. (1 + rank) ∷ []) 0 ws)
        (run_small UPPER_FIRST_CASE_RUNS upper_first_runs_fit (lit< tt) n) (omega (arith, p.0), ih 0))
    by (inr (inr l)) ih = absurd (omega (arith, p.0))

-- ---- the two orders
-- lower case first: lists as long
pub lower_first_order : (vs ws s t : List ℕ) → AllByRecursion IsRank vs → AllByRecursion IsRank ws → IsUnder 2 s → IsUnder 2 t → length vs
    ≡ length ws
    → list_order (case_level LowerFirst vs ++ s) (case_level LowerFirst ws ++ t) ≡ ordering_then (list_order vs ws) (list_order s t)
lower_first_order = or_nothing_order 0 IsRank (λ w p. omega arith) (λ ranks. packed (case_nibbles LowerFirst ranks)) refl
    (nibbles_less LOWER_FIRST_CASE_RUNS lower_first_runs_fit (λ rank. (13 + rank) ∷ []) IsRank lower_first_fits
    (λ ws p. lower_first_small ws 0 p))

-- upper case first: any lists
upper_first_less : (vs ws s t : List ℕ) → AllByRecursion IsRank vs → AllByRecursion IsRank ws → IsUnder 2 s → list_order vs ws ≡ Less
    → list_order (case_level UpperFirst vs ++ s) (case_level UpperFirst ws ++ t) ≡ Less
upper_first_less =
    nibbles_less UPPER_FIRST_CASE_RUNS upper_first_runs_fit (λ rank. (1 + rank) ∷ []) IsRank upper_first_fits
    (λ ws p. upper_first_small ws 0 p)

pub upper_first_order : (vs ws s t : List ℕ) → AllByRecursion IsRank vs → AllByRecursion IsRank ws → IsUnder 2 s → IsUnder 2 t
    → list_order (case_level UpperFirst vs ++ s) (case_level UpperFirst ws ++ t) ≡ ordering_then (list_order vs ws) (list_order s t)
upper_first_order vs ws s t p q u v =
    keeps_order vs ws (case_level UpperFirst vs) (case_level UpperFirst ws) s t (upper_first_less vs ws s t p q u)
    (upper_first_less ws vs t s q p v) (λ e. ap (case_level UpperFirst) e)
