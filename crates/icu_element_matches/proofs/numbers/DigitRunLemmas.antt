-- Runs of digits, number by number.
use Rattle.std.proofs.Common.{◌≡◌, ℕ, zero, suc, ◌+◌, ◌-◌, ◌*◌, ◌%◌, ◌^◌, ◌<◌, ◌≤◌, List, [], ◌∷◌, ◌++◌, All, length, get_or, take, drop, refl, sym, ap, ap₂, ◌∙◌, subst, append_assoc, arith, lit<, length-take, length-drop}
use Rattle.std.proofs.lemmas.List.{take_all}
use Rattle.std.proofs.lemmas.List.Elements.{All-from_recursion, recursion_from_All, All-take, All-drop}
use Rattle.icu_element_matches.specs.numbers.inner.Pairs.{IsFirstPair}
use Rattle.std.proofs.Math.Nat.{pow-suc, pow-zero, pow-le-pow_right, mul-le-mul_right}
use Rattle.icu_order_levels.proofs.DigitRuns.{no_zeros_digits}
use Rattle.icu_order_levels.specs.Numbers.{number_weights, value_after, value_of, without_first_zeros, longest_number, run_weights_by, run_weights}

fewer_left : (ds : List ℕ) → length (without_first_zeros ds) ≤ length ds
fewer_left [] = omega arith
fewer_left (zero ∷ ds) = omega (arith, fewer_left ds)
fewer_left (suc d ∷ ds) = omega arith

-- what is left of a run after a number of it is shorter
left_shorter : (d : ℕ) (ds : List ℕ) → length (drop longest_number (without_first_zeros (d ∷ ds))) ≤ length ds
left_shorter zero ds = omega (arith, length-drop longest_number (without_first_zeros ds), fewer_left ds)
left_shorter (suc d) ds = omega (arith, length-drop longest_number (suc d ∷ ds))

-- any list that is long enough to go by will do
by_enough : (fs gs ds : List ℕ) (numeric : ℕ) → length ds ≤ length fs → length ds ≤ length gs → run_weights_by fs numeric ds ≡ run_weights_by gs numeric ds
by_enough [] [] ds numeric l m = refl
by_enough [] (g ∷ gs) [] numeric l m = refl
by_enough [] (g ∷ gs) (d ∷ ds) numeric l m = absurd (omega arith)
by_enough (f ∷ fs) [] [] numeric l m = refl
by_enough (f ∷ fs) [] (d ∷ ds) numeric l m = absurd (omega arith)
by_enough (f ∷ fs) (g ∷ gs) [] numeric l m = refl
by_enough (f ∷ fs) (g ∷ gs) (d ∷ ds) numeric l m =
    ap (λ ws. number_weights numeric (value_of (take longest_number (without_first_zeros (d ∷ ds)))) ++ ws)
    (by_enough fs gs (drop longest_number (without_first_zeros (d ∷ ds))) numeric (omega (arith, left_shorter d ds)) (omega (arith, left_shorter d ds)))

-- a run is a number, and then a run
pub run_turn : (numeric : ℕ) (ds : List ℕ) → 0 < length ds
    → run_weights numeric ds
    ≡ number_weights numeric (value_of (take longest_number (without_first_zeros ds))) ++ run_weights numeric (drop longest_number (without_first_zeros ds))
run_turn numeric [] some = absurd (omega arith)
run_turn numeric (d ∷ ds) some =
    ap (λ ws. number_weights numeric (value_of (take longest_number (without_first_zeros (d ∷ ds)))) ++ ws)
    (by_enough ds (drop longest_number (without_first_zeros (d ∷ ds))) (drop longest_number (without_first_zeros (d ∷ ds))) numeric (left_shorter d ds) (omega arith))

-- digits without their first zeros have none, however many of them are taken
pub no_first_zeros : (n : ℕ) (ds : List ℕ) → without_first_zeros (take n (without_first_zeros ds)) ≡ take n (without_first_zeros ds)
no_first_zeros zero ds = refl
no_first_zeros (suc n) [] = refl
no_first_zeros (suc n) (zero ∷ ds) = no_first_zeros (suc n) ds
no_first_zeros (suc n) (suc d ∷ ds) = refl

-- ---- values

value_least : (ds : List ℕ) (v : ℕ) → v * 10 ^ length ds ≤ value_after v ds
value_least [] v = rw (pow-zero 10) (omega arith)
value_least (d ∷ ds) v =
    rw (pow-suc 10 (length ds)) (least (10 * v + d) (10 ^ length ds) (value_after (10 * v + d) ds) v d refl (value_least ds (10 * v + d)))
  where
    least : (w p r v d : ℕ) → w ≡ 10 * v + d → w * p ≤ r → v * (p * 10) ≤ r
    least w p r v d e l =
        let m : (10 * v) * p ≤ w * p = mul-le-mul_right p (omega arith) in
        let n : (10 * v) * p ≡ v * (p * 10) = grind arith in
        omega arith

no_zero : (ds : List ℕ) → without_first_zeros ds ≡ zero ∷ ds → ⊥
no_zero ds e = omega (arith, ap length e, fewer_left ds)

-- more than seven digits are a number that is more than one weight
pub many_digits : (ds : List ℕ) → without_first_zeros ds ≡ ds → 8 ≤ length ds → 1042490 ≤ value_of ds
many_digits [] first many = absurd (omega arith)
many_digits (zero ∷ ds) first many = absurd (no_zero ds first)
many_digits (suc d ∷ ds) first many =
    let few : 7 ≤ length ds = omega arith in
    let p : 10 ^ 7 ≤ 10 ^ length ds = pow-le-pow_right (lit< tt) few in
    let e : 10 * 0 + suc d ≡ suc d = omega arith in
    let m : 1 * 10 ^ length ds ≤ suc d * 10 ^ length ds = mul-le-mul_right (10 ^ length ds) (omega arith) in
    rw e (omega (arith, value_least ds (suc d), p, m))

-- few digits are of small value
pub few_digits : (n : ℕ) → n ≤ 6 → 10 ^ n ≤ 1000000
few_digits n l = pow-le-pow_right (lit< tt) l

pub some_digits : (ds : List ℕ) → 0 < value_of ds → 0 < length ds
some_digits [] some = absurd (omega arith)
some_digits (d ∷ ds) some = omega arith

-- ---- the first pair

-- an odd number of digits
pub odd_split : (ds : List ℕ) → All (λ d. d < 10) ds → without_first_zeros ds ≡ ds → 0 < length ds → length ds % 2 ≡ 1
    → IsFirstPair ds (get_or ds 0 0) (take (length ds - 1) (drop 1 ds))
odd_split [] a first some odd = absurd (omega arith)
odd_split (zero ∷ ds) a first some odd = absurd (no_zero ds first)
odd_split (suc d ∷ ds) a first some odd =
    let by = recursion_from_All (λ d. d < 10) (suc d ∷ ds) a in
    let e : 10 * 0 + suc d ≡ suc d = omega arith in
    let count : length (suc d ∷ ds) - 1 ≡ length ds = omega arith in
    subst (IsFirstPair (suc d ∷ ds) (suc d)) (sym (ap (λ n. take n ds) count ∙ take_all (length ds) ds (omega arith)))
    (record {
      value = ap (λ v. value_after v ds) e;
      pair = omega (arith, by.0);
      some = omega arith;
      decimal = All-from_recursion (λ d. d < 10) ds by.1;
      even = omega arith;
      shorter = omega arith;
    })

-- an even number of digits
pub even_split : (ds : List ℕ) → All (λ d. d < 10) ds → without_first_zeros ds ≡ ds → 0 < length ds → (length ds % 2 ≡ 1 → ⊥)
    → IsFirstPair ds (10 * get_or ds 0 0 + get_or ds 1 0) (take (length ds - 2) (drop 2 ds))
even_split [] a first some even = absurd (omega arith)
even_split (zero ∷ ds) a first some even = absurd (no_zero ds first)
even_split (suc d ∷ []) a first some even = absurd (even refl)
even_split (suc d ∷ (e ∷ ds)) a first some even =
    let by = recursion_from_All (λ d. d < 10) (suc d ∷ (e ∷ ds)) a in
    let f : 10 * (10 * 0 + suc d) + e ≡ 10 * suc d + e = omega arith in
    let count : length (suc d ∷ (e ∷ ds)) - 2 ≡ length ds = omega arith in
    let other : length (suc d ∷ (e ∷ ds)) % 2 ≡ 1 → ⊥ = even in
    subst (IsFirstPair (suc d ∷ (e ∷ ds)) (10 * suc d + e)) (sym (ap (λ n. take n ds) count ∙ take_all (length ds) ds (omega arith)))
    (record {
      value = ap (λ v. value_after v ds) f;
      pair = omega (arith, by.0, by.1.0);
      some = omega arith;
      decimal = All-from_recursion (λ d. d < 10) ds by.1.1;
      even = omega arith;
      shorter = omega arith;
    })

-- ---- a number and the rest of its run

module _ (left kept : List ℕ) (k : kept ≡ without_first_zeros left) where
  pub kept_decimal : All (λ d. d < 10) left → All (λ d. d < 10) kept
  kept_decimal a =
      subst (All (λ d. d < 10)) (sym k)
      (All-from_recursion (λ d. d < 10) (without_first_zeros left) (no_zeros_digits left (recursion_from_All (λ d. d < 10) left a)))

  pub number_decimal : (number : List ℕ) → number ≡ take longest_number kept → All (λ d. d < 10) left → All (λ d. d < 10) number
  number_decimal number n a = subst (All (λ d. d < 10)) (sym n) (All-take (λ d. d < 10) longest_number kept (kept_decimal a))

  pub rest_decimal : (rest : List ℕ) → rest ≡ drop longest_number kept → All (λ d. d < 10) left → All (λ d. d < 10) rest
  rest_decimal rest r a = subst (All (λ d. d < 10)) (sym r) (All-drop (λ d. d < 10) longest_number kept (kept_decimal a))

  pub number_first : (number : List ℕ) → number ≡ take longest_number kept → without_first_zeros number ≡ number
  number_first number n =
      let e : number ≡ take longest_number (without_first_zeros left) = n ∙ ap (take longest_number) k in
      ap without_first_zeros e ∙ no_first_zeros longest_number left ∙ sym e

  pub number_fits : (number : List ℕ) → number ≡ take longest_number kept → length number ≤ longest_number
  number_fits number n = omega (arith, ap length n, length-take longest_number kept)

  pub rest_shorter : (rest : List ℕ) → rest ≡ drop longest_number kept → 0 < length left → length rest < length left
  rest_shorter rest r some = omega (arith, ap length (r ∙ ap (drop longest_number) k), shorter left some)
    where
      shorter : (ds : List ℕ) → 0 < length ds → length (drop longest_number (without_first_zeros ds)) < length ds
      shorter [] some = absurd (omega arith)
      shorter (d ∷ ds) some = omega (arith, left_shorter d ds)

  pub weights_more : (numeric : ℕ) (number rest old new : List ℕ) → number ≡ take longest_number kept → rest ≡ drop longest_number kept
      → 0 < length left → new ≡ old ++ number_weights numeric (value_of number)
      → new ++ run_weights numeric rest ≡ old ++ run_weights numeric left
  weights_more numeric number rest old new n r some e =
      ap (λ ws. ws ++ run_weights numeric rest) e
      ∙ append_assoc old (number_weights numeric (value_of number)) (run_weights numeric rest)
      ∙ ap (λ ws. old ++ ws)
      (ap₂ (λ (ds es : List ℕ). number_weights numeric (value_of ds) ++ run_weights numeric es)
      (n ∙ ap (take longest_number) k) (r ∙ ap (drop longest_number) k)
      ∙ sym (run_turn numeric left some))
