-- The pairs of a number are its digits in twos.
use Rattle.std.proofs.Common.{◌≡◌, ℕ, zero, suc, ◌+◌, ◌-◌, ◌*◌, ◌/◌, ◌%◌, ◌^◌, ◌<◌, ◌≤◌, ◌==◌, false, List, [], ◌∷◌, ◌++◌, length, get_or, take, drop, refl, sym, ap, ap₂, ◌∙◌, arith, append_assoc, append-nil, add-zero, lit<, ne_eqb}
use Rattle.std.proofs.lemmas.Bool.{le-ltb}
use Rattle.std.proofs.lemmas.List.{take_more, take_all, length-take-le}
use Rattle.std.proofs.lemmas.List.Elements.{recursion_from_All}
use Rattle.std.proofs.Math.Nat.{pow-suc}
use Rattle.std.specs.List.{AllByRecursion}
use Rattle.icu_order_levels.specs.WeightBytes.{digits, without_last_zeros}
use Rattle.icu_order_levels.specs.Numbers.{in_threes, pair_count, pair_bytes, great_bytes, number_weights, value_after, value_of, longest_number}
use Rattle.icu_order_levels.proofs.DigitsFromTheEnd.{digits_last}
use Rattle.icu_order_levels.proofs.TrimmedLemmas.{zero_dropped, kept_whole, at_end}
use Rattle.icu_order_levels.proofs.PrecedesLemmas.{nonzero_first}
use Rattle.icu_element_matches.specs.numbers.inner.Pairs.{in_twos, IsFirstPair}

-- two digits more at the end make one pair more
digits_more : (k v p : ℕ) → p < 100 → v < 100 ^ k → digits 100 (suc k) (100 * v + p) ≡ digits 100 k v ++ p ∷ []
digits_more k v p small l =
    let q : (100 * v + p) / 100 ≡ v = omega arith in
    let r : (100 * v + p) % 100 ≡ p = omega arith in
    let fits : 100 * v + p < 100 ^ suc k = omega (arith, pow-suc 100 k, l) in
    digits_last 100 k (100 * v + p) (lit< tt) fits ∙ (ap (λ n. digits 100 k n ++ (100 * v + p) % 100 ∷ []) q ∙ ap (λ n. digits 100 k v ++ n ∷ []) r)

-- the pairs of digits after a value of j pairs
digits_after : (ds : List ℕ) (pairs j v : ℕ) → length ds ≡ 2 * pairs → AllByRecursion (λ d. d < 10) ds → v < 100 ^ j
    → digits 100 (j + pairs) (value_after v ds) ≡ digits 100 j v ++ in_twos ds
digits_after [] zero j v even small l = rw add-zero (sym (append-nil _))
digits_after [] (suc pairs) j v even small l = absurd (omega arith)
digits_after (d ∷ []) pairs j v even small l = absurd (omega arith)
digits_after (d ∷ e ∷ ds) zero j v even small l = absurd (omega arith)
digits_after (d ∷ e ∷ ds) (suc pairs) j v even small l =
    let p = 10 * d + e in
    let under : p < 100 = omega (arith, small.0, small.1.0) in
    let count : j + suc pairs ≡ suc j + pairs = omega arith in
    let value : 10 * (10 * v + d) + e ≡ 100 * v + p = omega arith in
    rw (count, value) (
    digits_after ds pairs (suc j) (100 * v + p) (omega arith) small.1.1 (omega (arith, pow-suc 100 j, l, under))
    ∙ ap (λ (ps : List ℕ). ps ++ in_twos ds) (digits_more j v p under l)
    ∙ append_assoc (digits 100 j v) (p ∷ []) (in_twos ds)
    )

-- the pairs of a first pair and digits after it
pub pairs_digits : (n p : ℕ) (ds : List ℕ) → length ds ≡ 2 * n → AllByRecursion (λ d. d < 10) ds → p < 100 → digits 100 (suc n) (value_after p ds) ≡ p ∷ in_twos ds
pairs_digits n p ds even small under =
    let count : 1 + n ≡ suc n = omega arith in
    let whole : p / 1 ≡ p = omega arith in
    ap (λ k. digits 100 k (value_after p ds)) (sym count)
    ∙ digits_after ds n 1 p even small (omega arith)
    ∙ ap (λ w. w ∷ in_twos ds) whole

-- ---- how many pairs

-- a number that goes on with a pair has one pair more, where there may be more
count_more : (most v p : ℕ) → 0 < v → p < 100 → pair_count (suc most) (100 * v + p) ≡ suc (pair_count most v)
unfolding pair_count
count_more most v p some small =
    let q : (100 * v + p) / 100 ≡ v = omega arith in
    let other : (100 * v + p == 0) ≡ false = ne_eqb (100 * v + p) 0 (λ z. omega (arith, z, some)) in
    rw (other, q) refl

-- the pairs after a value that has j of them
count_after : (ds : List ℕ) (pairs most v j : ℕ) → length ds ≡ 2 * pairs → AllByRecursion (λ d. d < 10) ds → 0 < v → pair_count most v ≡ j
    → pair_count (most + pairs) (value_after v ds) ≡ j + pairs
count_after [] zero most v j even small some e = rw (add-zero, add-zero) e
count_after [] (suc pairs) most v j even small some e = absurd (omega arith)
count_after (d ∷ []) pairs most v j even small some e = absurd (omega arith)
count_after (d ∷ x ∷ ds) zero most v j even small some e = absurd (omega arith)
count_after (d ∷ x ∷ ds) (suc pairs) most v j even small some e =
    let p = 10 * d + x in
    let under : p < 100 = omega (arith, small.0, small.1.0) in
    let value : 10 * (10 * v + d) + x ≡ 100 * v + p = omega arith in
    let a : most + suc pairs ≡ suc most + pairs = omega arith in
    let b : j + suc pairs ≡ suc j + pairs = omega arith in
    rw (a, b, value) (count_after ds pairs (suc most) (100 * v + p) (suc j) (omega arith) small.1.1 (omega (arith, some)) (count_more most v p some under ∙ ap suc e))

first_count : (most p : ℕ) → 0 < p → p < 100 → pair_count (suc most) p ≡ 1
unfolding pair_count
first_count zero p some small = rw (ne_eqb p 0 (λ z. omega (arith, z, some))) refl
first_count (suc most) p some small =
    let q : p / 100 ≡ 0 = omega arith in
    rw (ne_eqb p 0 (λ z. omega (arith, z, some)), q) refl

-- a first pair that isn't 0, and digits after it
pub pairs_counted : (n p : ℕ) (ds : List ℕ) → n < 127 → length ds ≡ 2 * n → AllByRecursion (λ d. d < 10) ds → 0 < p → p < 100
    → pair_count 127 (value_after p ds) ≡ suc n
pairs_counted n p ds fits even small some under =
    let most : 127 ≡ suc (126 - n) + n = omega arith in
    rw (most) (count_after ds n (suc (126 - n)) p 1 even small some (first_count (126 - n) p some under) ∙ omega arith)

-- ---- the bytes of a number of several weights

great_bytes_alike : (n m v w : ℕ) (ps : List ℕ) → n ≡ suc m → v ≡ w → without_last_zeros (digits 100 (suc m) w) ≡ ps
    → great_bytes n v ≡ (129 + m) ∷ pair_bytes ps
great_bytes_alike n m v w ps e f g =
    let count : 128 + suc m ≡ 129 + m = omega arith in
    ap (λ k. great_bytes k v) e ∙ ap (great_bytes (suc m)) f ∙ ap (λ qs. (128 + suc m) ∷ pair_bytes qs) g ∙ ap (λ b. b ∷ pair_bytes ps) count

pub great_bytes_spelled : (ds : List ℕ) (first : ℕ) (others kept : List ℕ) → IsFirstPair ds first others → length ds ≤ longest_number
    → in_twos kept ≡ without_last_zeros (in_twos others)
    → great_bytes (pair_count 127 (value_of ds)) (value_of ds) ≡ (129 + length others / 2) ∷ pair_bytes (first ∷ in_twos kept)
great_bytes_spelled ds first others kept split fits e =
    let n = length others / 2 in
    let even : length others ≡ 2 * n = omega (arith, split.even) in
    let small = recursion_from_All (λ d. d < 10) others split.decimal in
    let few : n < 127 = omega (arith, split.shorter, fits) in
    great_bytes_alike (pair_count 127 (value_of ds)) n (value_of ds) (value_after first others) (first ∷ in_twos kept)
    (ap (pair_count 127) split.value ∙ pairs_counted n first others few even small split.some split.pair)
    split.value
    (ap without_last_zeros (pairs_digits n first others even small split.pair)
    ∙ nonzero_first first (without_last_zeros (in_twos others)) split.some
    ∙ ap (λ ps. first ∷ ps) (sym e))

-- a number of several weights
pub number_great : (numeric v : ℕ) → 1042490 ≤ v → number_weights numeric v ≡ in_threes numeric (great_bytes (pair_count 127 v) v)
number_great numeric v l =
    let a : 74 ≤ v = omega arith in
    let b : 10234 ≤ v = omega arith in
    rw (le-ltb v 74 a, le-ltb v 10234 b, le-ltb v 1042490 l) refl

-- ---- pairs in turn

pub pair_turn : (old new : List ℕ) (pair : ℕ) (ds : List ℕ) → new ≡ old ++ (11 + 2 * pair) ∷ [] → 2 ≤ length ds
    → new ++ pair_bytes ((10 * get_or ds 0 0 + get_or ds 1 0) ∷ in_twos (take (length ds - 2) (drop 2 ds)))
    ≡ old ++ pair_bytes (pair ∷ in_twos ds)
pair_turn old new pair [] e l = absurd (omega arith)
pair_turn old new pair (d ∷ []) e l = absurd (omega arith)
pair_turn old new pair (d ∷ (f ∷ ds)) e l =
    let count : length (d ∷ (f ∷ ds)) - 2 ≡ length ds = omega arith in
    let left : take (length (d ∷ (f ∷ ds)) - 2) ds ≡ ds = ap (λ n. take n ds) count ∙ take_all (length ds) ds (omega arith) in
    ap₂ (λ (ws es : List ℕ). ws ++ pair_bytes ((10 * d + f) ∷ in_twos es)) e left
    ∙ append_assoc old ((11 + 2 * pair) ∷ []) (pair_bytes ((10 * d + f) ∷ in_twos ds))

-- ---- pairs at the end

twos_append : (xs ys : List ℕ) (n : ℕ) → length xs ≡ 2 * n → in_twos (xs ++ ys) ≡ in_twos xs ++ in_twos ys
twos_append [] ys n even = refl
twos_append (x ∷ []) ys n even = absurd (omega arith)
twos_append (x ∷ (y ∷ xs)) ys zero even = absurd (omega arith)
twos_append (x ∷ (y ∷ xs)) ys (suc n) even = ap (λ ps. (10 * x + y) ∷ ps) (twos_append xs ys n (omega arith))

module _ (ds : List ℕ) (n m : ℕ) (e : length ds ≡ n + 2) (f : m ≡ n + 1) (even : n % 2 ≡ 0) where
  -- an even number of digits ends in a pair
  twos_end : in_twos ds ≡ in_twos (take n ds) ++ (10 * get_or ds n 0 + get_or ds m 0) ∷ []
  twos_end =
      let before : length (take n ds) ≡ n = length-take-le n ds (omega arith) in
      let whole : ds ≡ take n ds ++ (get_or ds n 0 ∷ get_or ds m 0 ∷ []) =
      at_end ds m (omega arith) ∙ ap (λ k. take k ds ++ get_or ds m 0 ∷ []) f
      ∙ ap (λ xs. xs ++ get_or ds m 0 ∷ []) (take_more ds n 0 (omega arith))
      ∙ append_assoc (take n ds) (get_or ds n 0 ∷ []) (get_or ds m 0 ∷ []) in
      ap in_twos whole ∙ twos_append (take n ds) (get_or ds n 0 ∷ get_or ds m 0 ∷ []) (n / 2) (omega arith)

  pub last_pair_zero : 10 * get_or ds n 0 + get_or ds m 0 ≡ 0 → without_last_zeros (in_twos (take n ds)) ≡ without_last_zeros (in_twos ds)
  last_pair_zero z =
      sym (ap without_last_zeros (twos_end ∙ ap (λ p. in_twos (take n ds) ++ p ∷ []) z) ∙ zero_dropped (in_twos (take n ds)))

  pub last_pair_other : (p : ℕ) → 10 * get_or ds n 0 + get_or ds m 0 ≡ suc p → in_twos ds ≡ without_last_zeros (in_twos ds)
  last_pair_other p z =
      let whole : in_twos ds ≡ in_twos (take n ds) ++ suc p ∷ [] = twos_end ∙ ap (λ p. in_twos (take n ds) ++ p ∷ []) z in
      whole ∙ sym (ap without_last_zeros whole ∙ kept_whole (in_twos (take n ds)) p)
