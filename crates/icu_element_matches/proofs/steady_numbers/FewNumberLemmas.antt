-- Runs of digits whose value is a number of one weight.
use Rattle.std.proofs.Common.{◌≡◌, ◌<◌, ◌≤◌, ◌+◌, ◌*◌, ℕ, zero, suc, List, [], ◌∷◌, ◌++◌, length, take, drop, refl, sym, ap, ap₂, ◌∙◌, inl, inr, append-nil, arith}
use Rattle.std.proofs.lemmas.Bool.{cases_lt}
use Rattle.std.proofs.lemmas.List.{take_all}
use Rattle.std.proofs.Math.ListN.{drop_of_length-le}
use Rattle.icu_order_levels.proofs.DigitRuns.{value_without_zeros}
use Rattle.icu_order_levels.specs.Numbers.{number_weights, value_after, value_of, without_first_zeros, longest_number, run_weights}
use Rattle.icu_element_matches.proofs.numbers.DigitRunLemmas.{many_digits, run_turn}

-- one digit more
pub value_push : (ds : List ℕ) (v d : ℕ) → value_after v (ds ++ d ∷ []) ≡ 10 * value_after v ds + d
value_push [] v d = refl
value_push (e ∷ ds) v d = value_push ds (10 * v + e) d

no_zeros_twice : (ds : List ℕ) → without_first_zeros (without_first_zeros ds) ≡ without_first_zeros ds
no_zeros_twice [] = refl
no_zeros_twice (zero ∷ ds) = no_zeros_twice ds
no_zeros_twice (suc d ∷ ds) = refl

-- a small value has few digits
few_kept : (ds : List ℕ) → without_first_zeros ds ≡ ds → value_of ds < 1042490 → length ds ≤ longest_number
few_kept ds first few =
    elim (cases_lt (length ds) 8) [
      | inl short ↦ omega arith
      | inr long ↦ absurd (omega (arith, many_digits ds first (omega arith)))
    ]

-- a run of digits of a small value is one number
pub few_number : (lead : ℕ) (ds : List ℕ) → 0 < length ds → value_of ds < 1042490 → run_weights lead ds ≡ number_weights lead (value_of ds)
few_number lead ds some few =
    let kept = without_first_zeros ds in
    let is : value_of kept ≡ value_of ds = value_without_zeros ds in
    let fits : length kept ≤ longest_number = few_kept kept (no_zeros_twice ds) (omega (arith, is)) in
    run_turn lead ds some
    ∙ ap₂ (λ (es fs : List ℕ). number_weights lead (value_of es) ++ run_weights lead fs) (take_all longest_number kept fits) (drop_of_length-le kept fits)
    ∙ append-nil (number_weights lead (value_of kept))
    ∙ ap (number_weights lead) is
