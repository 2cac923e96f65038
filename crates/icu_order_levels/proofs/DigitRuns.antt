-- Runs of digits as numbers.
use Rattle.std.proofs.Common.{◌≡◌, false, ℕ, zero, suc, ◌+◌, ◌*◌, ◌^◌, ◌<◌, ◌≤◌, List, [], ◌∷◌, ◌++◌, length, take, drop, refl, sym, ap, ◌∙◌, subst, arith, lit<, lit≤, append-nil, append_assoc, length-take}
use Rattle.std.specs.Ordering.{nat_cmp}
use Rattle.std.specs.List.{AllByRecursion}
use Rattle.std.proofs.Math.Nat.{pow-suc, pow-zero, pow-le-pow_right, mul-le-mul_right, mul_assoc, mul_comm}
use Rattle.std.proofs.lemmas.List.{take_all}
use Rattle.icu_order_levels.specs.ListOrder.{list_order}
use Rattle.icu_order_levels.specs.Premises.{IsPrimaryList}
use Rattle.icu_order_levels.specs.Numbers.{number_weights, value_after, value_of, without_first_zeros, longest_number, run_weights_by, run_weights}
use Rattle.icu_order_levels.proofs.NumberWeightOrder.{numbers_by_value}
use Rattle.icu_order_levels.proofs.NumberStands.{number_stands}

-- first zeros are of no value
pub value_without_zeros : (ds : List ℕ) → value_of (without_first_zeros ds) ≡ value_of ds
value_without_zeros [] = refl
value_without_zeros (zero ∷ ds) = value_without_zeros ds
value_without_zeros (suc d ∷ ds) = refl

ten_times : (v d p : ℕ) → d < 10 → (10 * v + d + 1) * p ≤ (v + 1) * (p * 10)
ten_times v d p l =
    let m : (10 * v + d + 1) * p ≤ ((v + 1) * 10) * p = mul-le-mul_right p (more v d l) in
    subst (λ z. (10 * v + d + 1) * p ≤ z) (mul_assoc (v + 1) 10 p ∙ ap (λ z. (v + 1) * z) (mul_comm 10 p)) m
  where
    more : (v d : ℕ) → d < 10 → 10 * v + d + 1 ≤ (v + 1) * 10
    more v d l = omega arith

value_bound : (ds : List ℕ) (v : ℕ) → AllByRecursion (λ d. d < 10) ds → value_after v ds < (v + 1) * 10 ^ length ds
value_bound [] v a = rw (pow-zero 10) (omega arith)
value_bound (d ∷ ds) v a =
    let more : (10 * v + d + 1) * 10 ^ length ds ≤ (v + 1) * 10 ^ suc (length ds) =
    rw (pow-suc 10 (length ds)) (ten_times v d (10 ^ length ds) a.0) in
    omega (arith, value_bound ds (10 * v + d) a.1)

pub no_zeros_digits : (ds : List ℕ) → AllByRecursion (λ d. d < 10) ds → AllByRecursion (λ d. d < 10) (without_first_zeros ds)
no_zeros_digits [] a = tt
no_zeros_digits (zero ∷ ds) a = no_zeros_digits ds a.1
no_zeros_digits (suc d ∷ ds) a = a

-- of digits without their first zeros the first take few enough to be one number
chunk_value : (ds : List ℕ) → AllByRecursion (λ d. d < 10) ds → length ds ≤ longest_number → value_of ds < 100 ^ 127
chunk_value ds a l =
    let m : 10 ^ length ds ≤ 10 ^ longest_number = pow-le-pow_right (lit< tt) l in
    below (value_of ds) (10 ^ length ds) (10 ^ longest_number) (100 ^ 127) (value_bound ds 0 a) m (lit≤ tt)
  where
    below : (v p q r : ℕ) → v < (0 + 1) * p → p ≤ q → q ≤ r → v < r
    below v p q r a b c = omega arith

take_digits : (n : ℕ) (ds : List ℕ) → AllByRecursion (λ d. d < 10) ds → AllByRecursion (λ d. d < 10) (take n ds)
take_digits zero ds a = tt
take_digits (suc n) [] a = tt
take_digits (suc n) (d ∷ ds) a = (a.0, take_digits n ds a.1)

drop_digits : (n : ℕ) (ds : List ℕ) → AllByRecursion (λ d. d < 10) ds → AllByRecursion (λ d. d < 10) (drop n ds)
drop_digits zero ds a = a
drop_digits (suc n) [] a = tt
drop_digits (suc n) (d ∷ ds) a = drop_digits n ds a.1

-- ---- a run that is one number
no_more : (n : ℕ) (ds : List ℕ) → length ds ≤ n → drop n ds ≡ []
no_more n [] l = drop_nothing n
  where
    drop_nothing : (n : ℕ) → drop {A = ℕ} n [] ≡ []
    drop_nothing zero = refl
    drop_nothing (suc n) = refl
no_more zero (d ∷ ds) l = absurd (omega arith)
no_more (suc n) (d ∷ ds) l = no_more n ds (omega arith)

run_rest : (fs : List ℕ) (numeric : ℕ) (ds : List ℕ) → ds ≡ [] → run_weights_by fs numeric ds ≡ []
run_rest [] numeric ds e = refl
run_rest (f ∷ fs) numeric [] e = refl
run_rest (f ∷ fs) numeric (d ∷ ds) e = cc

pub one_number : (numeric : ℕ) (ds : List ℕ) → 0 < length ds → length (without_first_zeros ds) ≤ longest_number → run_weights numeric ds
    ≡ number_weights numeric (value_of ds)
one_number numeric [] some l = absurd (omega arith)
one_number numeric (d ∷ ds) some l =
    both (run_weights_by ds numeric (drop longest_number (without_first_zeros (d ∷ ds))))
    (value_of (take longest_number (without_first_zeros (d ∷ ds)))) (value_of (d ∷ ds))
    (run_rest ds numeric (drop longest_number (without_first_zeros (d ∷ ds))) (no_more longest_number (without_first_zeros (d ∷ ds)) l))
    (ap value_of (take_all longest_number (without_first_zeros (d ∷ ds)) l) ∙ value_without_zeros (d ∷ ds))
  where
    both : (left : List ℕ) (v w : ℕ) → left ≡ [] → v ≡ w → number_weights numeric v ++ left ≡ number_weights numeric w
    both left v w e f = ap (λ z. number_weights numeric v ++ z) e ∙ (append-nil (number_weights numeric v) ∙ ap (number_weights numeric) f)

pub run_bound : (ds : List ℕ) → AllByRecursion (λ d. d < 10) ds → length (without_first_zeros ds) ≤ longest_number → value_of ds < 100 ^ 127
run_bound ds a l = subst (λ v. v < 100 ^ 127) (value_without_zeros ds) (chunk_value (without_first_zeros ds) (no_zeros_digits ds a) l)

-- two runs of at most 254 digits after first zeros order by value
pub runs_by_value : (numeric : ℕ) (ds es : List ℕ) → AllByRecursion (λ d. d < 10) ds → AllByRecursion (λ d. d < 10) es → 0 < length ds
    → 0 < length es
    → length (without_first_zeros ds) ≤ longest_number → length (without_first_zeros es) ≤ longest_number
    → list_order (run_weights numeric ds) (run_weights numeric es) ≡ nat_cmp (value_of ds) (value_of es)
runs_by_value numeric ds es a b s t l m =
    rw (one_number numeric ds s l, one_number numeric es t m)
    (numbers_by_value numeric (value_of ds) (value_of es) (run_bound ds a l) (run_bound es b m))

-- ---- runs of any length may stand among primaries
module _ (numeric : ℕ) (n : numeric < 256) (IsReachable : ℕ → Type 0) (rest : List ℕ) (after : IsPrimaryList numeric IsReachable false rest) where
  by_stands : (fs ds : List ℕ) → AllByRecursion (λ d. d < 10) ds → IsPrimaryList numeric IsReachable false (run_weights_by fs numeric ds ++ rest)
  by_stands [] ds a = after
  by_stands (f ∷ fs) [] a = after
  by_stands (f ∷ fs) (d ∷ ds) a =
      let digits = no_zeros_digits (d ∷ ds) a in
      let v = value_of (take longest_number (without_first_zeros (d ∷ ds))) in
      let left = run_weights_by fs numeric (drop longest_number (without_first_zeros (d ∷ ds))) in
      subst (IsPrimaryList numeric IsReachable false) (sym (append_assoc (number_weights numeric v) left rest))
      (number_stands numeric n IsReachable (left ++ rest)
      (by_stands fs (drop longest_number (without_first_zeros (d ∷ ds)))
      (drop_digits longest_number (without_first_zeros (d ∷ ds)) digits)) v
      (chunk_value (take longest_number (without_first_zeros (d ∷ ds))) (take_digits longest_number (without_first_zeros (d ∷ ds)) digits)
      (few (without_first_zeros (d ∷ ds)))))
    where
      few : (ds : List ℕ) → length (take longest_number ds) ≤ longest_number
      few ds = omega (arith, length-take longest_number ds)

  pub run_stands : (ds : List ℕ) → AllByRecursion (λ d. d < 10) ds → IsPrimaryList numeric IsReachable false (run_weights numeric ds ++ rest)
  run_stands ds a = by_stands ds ds a
