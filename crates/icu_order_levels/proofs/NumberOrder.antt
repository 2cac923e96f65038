-- The bytes of numbers rise with their value.
use Rattle.std.proofs.Common.{◌≡◌, ◌≢◌, ℕ, zero, suc, ◌+◌, ◌-◌, ◌*◌, ◌/◌, ◌%◌, ◌^◌, ◌<◌, ◌≤◌, Bool, true, false, ◌&&◌, if◌then◌else◌, ap, List, [], ◌∷◌, length, refl, sym, ◌∙◌, inl, inr, ◌⊎◌, arith, lit<, lit≤, Less, eqb, eq-eqb, ne_eqb}
use Rattle.std.proofs.lemmas.Bool.{cases_order, cases_eq, cases_Bool, cond-true, cond-false, and_parts, eqb-true}
use Rattle.std.proofs.lemmas.Nat.{mod_below, div-add-mod'}
use Rattle.std.proofs.Math.Nat.{one-le-pow, pow-suc, pow-zero}
use Rattle.icu_order_levels.specs.ListOrder.{list_order, Precedes}
use Rattle.icu_order_levels.specs.WeightBytes.{digits, before_nonzero, without_last_zeros}
use Rattle.icu_order_levels.specs.Cases.{is_only}
use Rattle.icu_order_levels.specs.Numbers.{pair_count, pair_bytes, smallest_bytes, small_bytes, middling_bytes, great_bytes, number_bytes}
use Rattle.icu_order_levels.proofs.Order.{less_cases}
use Rattle.icu_order_levels.proofs.WeightOrder.{digits_less}
use Rattle.icu_order_levels.proofs.PrecedesLemmas.{nonzero_first}
use Rattle.icu_order_levels.proofs.DifferenceOrder.{Rises, glue, precedes_head, precedes_more}

-- ---- how many pairs a number has
nonzero_count : (k v : ℕ) → v ≢ 0 → pair_count (suc k) v ≡ suc (pair_count k (v / 100))
unfolding pair_count
nonzero_count k v n = rw (ne_eqb v 0 n) refl

zero_count : (k v : ℕ) → v ≡ 0 → pair_count k v ≡ 0
unfolding pair_count
zero_count zero v e = refl
zero_count (suc k) v e = rw (eq-eqb v 0 e) refl

no_count : (v : ℕ) → pair_count zero v ≡ 0
unfolding pair_count
no_count v = refl

pub count_most : (k v : ℕ) → pair_count k v ≤ k
count_most zero v = omega (arith, no_count v)
count_most (suc k) v = by (cases_eq v 0) (count_most k (v / 100))
  where
    by : (v ≡ 0) ⊎ (v ≡ 0 → ⊥) → pair_count k (v / 100) ≤ k → pair_count (suc k) v ≤ suc k
    by (inl e) ih = omega (arith, zero_count (suc k) v e)
    by (inr n) ih = omega (arith, nonzero_count k v n)

count_grows : (k v w : ℕ) → v ≤ w → pair_count k v ≤ pair_count k w
count_grows zero v w l = omega (arith, no_count v)
count_grows (suc k) v w l = by (cases_eq v 0) (count_grows k (v / 100) (w / 100) (omega arith))
  where
    by : (v ≡ 0) ⊎ (v ≡ 0 → ⊥) → pair_count k (v / 100) ≤ pair_count k (w / 100) → pair_count (suc k) v ≤ pair_count (suc k) w
    by (inl e) ih = omega (arith, zero_count (suc k) v e)
    by (inr n) ih = omega (arith, nonzero_count k v n, nonzero_count k w (omega arith))

-- a number has no more digits than its pairs
pub count_fits : (k v : ℕ) → v < 100 ^ k → v < 100 ^ pair_count k v
count_fits zero v l = rw (no_count v) l
count_fits (suc k) v l = by (cases_eq v 0) (count_fits k (v / 100) (omega (arith, pow-suc 100 k)))
  where
    by : (v ≡ 0) ⊎ (v ≡ 0 → ⊥) → v / 100 < 100 ^ pair_count k (v / 100) → v < 100 ^ pair_count (suc k) v
    by (inl e) ih = omega (arith, e, one-le-pow (pair_count (suc k) v) 100 (lit≤ tt))
    by (inr n) ih = rw (nonzero_count k v n) (omega (arith, pow-suc 100 (pair_count k (v / 100))))

-- ---- the bytes of pairs

-- the same bytes, by asking at each pair whether only 00 follows
abbrev pub tested_bytes : List ℕ → List ℕ
tested_bytes [] = []
tested_bytes (p ∷ ps) = if is_only 0 ps then (10 + 2 * p) ∷ [] else (11 + 2 * p) ∷ tested_bytes ps

only_zeros : (ps : List ℕ) → is_only 0 ps ≡ true → without_last_zeros ps ≡ []
only_zeros [] e = refl
only_zeros (p ∷ ps) e =
    let h = and_parts (eqb p 0) (is_only 0 ps) e in
    both p (without_last_zeros ps) (eqb-true p 0 h.0) (only_zeros ps h.1)
  where
    both : (x : ℕ) (xs : List ℕ) → x ≡ 0 → xs ≡ [] → before_nonzero x xs ≡ []
    both x xs f g = rw (f, g) refl

not_both : (x y : Bool) → x ≡ true → y ≡ true → (x && y) ≡ false → ⊥
not_both true true a b c = cc
not_both true false a b c = cc
not_both false y a b c = cc

-- something is left of a list that isn't of zeros alone
pub some_left : (ps : List ℕ) → is_only 0 ps ≡ false → (q : ℕ) × (qs : List ℕ) × (without_last_zeros ps ≡ q ∷ qs)
some_left [] e = absurd (cc)
some_left (p ∷ ps) e = by (cases_Bool (is_only 0 ps)) (cases_eq p 0) (λ f. some_left ps f)
  where
    by : (is_only 0 ps ≡ true) ⊎ (is_only 0 ps ≡ false) → (p ≡ 0) ⊎ (p ≡ 0 → ⊥)
        → (is_only 0 ps ≡ false → (q : ℕ) × (qs : List ℕ) × (without_last_zeros ps ≡ q ∷ qs))
        → (q : ℕ) × (qs : List ℕ) × (before_nonzero p (without_last_zeros ps) ≡ q ∷ qs)
    by (inl f) (inl z) ih = absurd (not_both (eqb p 0) (is_only 0 ps) (eq-eqb p 0 z) f e)
    by (inl f) (inr n) ih = (p, [], ap (before_nonzero p) (only_zeros ps f) ∙ nonzero_first p [] (omega arith))
    by (inr f) z ih = let r = ih f in (p, r.0 ∷ r.1, ap (before_nonzero p) r.2)

tested : (ps : List ℕ) → is_only 0 ps ≡ false → pair_bytes (without_last_zeros ps) ≡ tested_bytes ps
tested [] e = absurd (cc)
tested (p ∷ ps) e = by (cases_Bool (is_only 0 ps)) (cases_eq p 0) (λ f. tested ps f)
  where
    by : (is_only 0 ps ≡ true) ⊎ (is_only 0 ps ≡ false) → (p ≡ 0) ⊎ (p ≡ 0 → ⊥)
        → (is_only 0 ps ≡ false → pair_bytes (without_last_zeros ps) ≡ tested_bytes ps)
        → pair_bytes (before_nonzero p (without_last_zeros ps)) ≡ tested_bytes (p ∷ ps)
    by (inl f) (inl z) ih = absurd (not_both (eqb p 0) (is_only 0 ps) (eq-eqb p 0 z) f e)
    by (inl f) (inr n) ih =
        ap pair_bytes (ap (before_nonzero p) (only_zeros ps f) ∙ nonzero_first p [] (omega arith)) ∙ sym (cond-true (is_only 0 ps) _ _ f)
    by (inr f) z ih = let r = some_left ps f in
        ap (λ l. pair_bytes (before_nonzero p l)) r.2
        ∙ (ap (λ l. (11 + 2 * p) ∷ l) (sym (ap pair_bytes r.2) ∙ ih f) ∙ sym (cond-false (is_only 0 ps) _ _ f))

-- the digits of a number above 0 are not zeros alone
zero_digits : (k v : ℕ) → v < 100 ^ k → is_only 0 (digits 100 k v) ≡ true → v ≡ 0
zero_digits zero v l e = omega (arith, pow-zero 100)
zero_digits (suc k) v l e =
    let h = and_parts (eqb (v / 100 ^ k) 0) (is_only 0 (digits 100 k (v % 100 ^ k))) e in
    let some : 0 < 100 ^ k = one-le-pow k 100 (lit≤ tt) in
    joined (v / 100 ^ k) (v % 100 ^ k) (100 ^ k) v (div-add-mod' v (100 ^ k)) (eqb-true (v / 100 ^ k) 0 h.0)
    (zero_digits k (v % 100 ^ k) (mod_below v (100 ^ k) some) h.1)
  where
    joined : (q r b v : ℕ) → q * b + r ≡ v → q ≡ 0 → r ≡ 0 → v ≡ 0
    joined zero r b v e f g = omega arith
    joined (suc q) r b v e f g = absurd (omega arith)

pub not_zeros : (k v : ℕ) → 0 < v → v < 100 ^ k → is_only 0 (digits 100 k v) ≡ false
not_zeros k v some l = by (cases_Bool (is_only 0 (digits 100 k v)))
  where
    by : (is_only 0 (digits 100 k v) ≡ true) ⊎ (is_only 0 (digits 100 k v) ≡ false) → is_only 0 (digits 100 k v) ≡ false
    by (inl e) = absurd (omega (arith, zero_digits k v l e))
    by (inr e) = e

great_pairs : (k v : ℕ) → 0 < v → v < 100 ^ k → pair_bytes (without_last_zeros (digits 100 k v)) ≡ tested_bytes (digits 100 k v)
great_pairs k v some l = tested (digits 100 k v) (not_zeros k v some l)

abbrev HeadBetween : ℕ → List ℕ → Type 0
HeadBetween p [] = ⊥
HeadBetween p (h ∷ t) = (10 + 2 * p ≤ h) × (h ≤ 11 + 2 * p)

last_pair : (p : ℕ) (ps : List ℕ) → is_only 0 ps ≡ true → tested_bytes (p ∷ ps) ≡ (10 + 2 * p) ∷ []
last_pair p ps e = cond-true (is_only 0 ps) _ _ e

inner_pair : (p : ℕ) (ps : List ℕ) → is_only 0 ps ≡ false → tested_bytes (p ∷ ps) ≡ (11 + 2 * p) ∷ tested_bytes ps
inner_pair p ps e = cond-false (is_only 0 ps) _ _ e

-- of two lists as long, the greater has a number other than 0
not_only : (ps qs : List ℕ) → length ps ≡ length qs → list_order ps qs ≡ Less → is_only 0 qs ≡ true → ⊥
not_only [] [] e h k = cc
not_only [] (q ∷ qs) e h k = omega arith
not_only (p ∷ ps) [] e h k = omega arith
not_only (p ∷ ps) (q ∷ qs) e h k =
    by (less_cases p q ps qs h) (λ l. not_only ps qs (omega arith) l (and_parts (eqb q 0) (is_only 0 qs) k).1)
  where
    zero_first : q ≡ 0
    zero_first = eqb-true q 0 (and_parts (eqb q 0) (is_only 0 qs) k).0

    by : (p < q) ⊎ ((p ≡ q) × (list_order ps qs ≡ Less)) → (list_order ps qs ≡ Less → ⊥) → ⊥
    by (inl l) ih = omega (arith, zero_first)
    by (inr r) ih = ih r.1

pairs_precede : (ps qs : List ℕ) → length ps ≡ length qs → list_order ps qs ≡ Less → Precedes (tested_bytes ps) (tested_bytes qs)
pairs_precede [] [] e h = absurd (cc)
pairs_precede [] (q ∷ qs) e h = absurd (omega arith)
pairs_precede (p ∷ ps) [] e h = absurd (omega arith)
pairs_precede (p ∷ ps) (q ∷ qs) e h =
    by (less_cases p q ps qs h) (cases_Bool (is_only 0 ps)) (cases_Bool (is_only 0 qs)) (λ l. pairs_precede ps qs (omega arith) l)
  where
    by : (p < q) ⊎ ((p ≡ q) × (list_order ps qs ≡ Less)) → (is_only 0 ps ≡ true) ⊎ (is_only 0 ps ≡ false) → (is_only 0 qs ≡ true)
        ⊎ (is_only 0 qs ≡ false)
        → (list_order ps qs ≡ Less → Precedes (tested_bytes ps) (tested_bytes qs))
        → Precedes (tested_bytes (p ∷ ps)) (tested_bytes (q ∷ qs))
    by (inl l) (inl a) (inl b) ih = rw (last_pair p ps a, last_pair q qs b) (precedes_head (10 + 2 * p) (10 + 2 * q) [] [] (omega arith))
    by (inl l) (inl a) (inr b) ih =
        rw (last_pair p ps a, inner_pair q qs b) (precedes_head (10 + 2 * p) (11 + 2 * q) [] (tested_bytes qs) (omega arith))
    by (inl l) (inr a) (inl b) ih =
        rw (inner_pair p ps a, last_pair q qs b) (precedes_head (11 + 2 * p) (10 + 2 * q) (tested_bytes ps) [] (omega arith))
    by (inl l) (inr a) (inr b) ih =
        rw (inner_pair p ps a, inner_pair q qs b) (precedes_head (11 + 2 * p) (11 + 2 * q) (tested_bytes ps) (tested_bytes qs)
        (omega arith))
    by (inr r) a (inl b) ih = absurd (not_only ps qs (omega arith) r.1 b)
    by (inr r) (inl a) (inr b) ih =
        rw (last_pair p ps a, inner_pair q qs b) (precedes_head (10 + 2 * p) (11 + 2 * q) [] (tested_bytes qs) (omega (arith, r.0)))
    by (inr r) (inr a) (inr b) ih =
        rw (inner_pair p ps a, inner_pair q qs b) (precedes_more (11 + 2 * p) (11 + 2 * q) (tested_bytes ps) (tested_bytes qs)
        (omega (arith, r.0)) (λ s. ih r.1))

length_digits : (base k v : ℕ) → length (digits base k v) ≡ k
length_digits base zero v = refl
length_digits base (suc k) v = let i = length_digits base k (v % base ^ k) in omega arith

-- ---- each form rises
smallest_rises : Rises smallest_bytes 0 74
smallest_rises x y a l b = precedes_head (2 + x) (2 + y) [] [] (omega arith)

small_rises : Rises small_bytes 74 10234
small_rises x y a l b =
    precedes_more (76 + (x - 74) / 254) (76 + (y - 74) / 254) ((2 + (x - 74) % 254) ∷ []) ((2 + (y - 74) % 254) ∷ []) (omega arith)
    (λ e. precedes_head (2 + (x - 74) % 254) (2 + (y - 74) % 254) [] [] (omega arith))

middling_rises : Rises middling_bytes 10234 1042490
middling_rises x y a l b =
    precedes_more (116 + (x - 10234) / 254 / 254) (116 + (y - 10234) / 254 / 254)
    ((2 + (x - 10234) / 254 % 254) ∷ (2 + (x - 10234) % 254) ∷ []) ((2 + (y - 10234) / 254 % 254) ∷ (2 + (y - 10234) % 254) ∷ [])
    (omega arith)
    (λ e. precedes_more (2 + (x - 10234) / 254 % 254) (2 + (y - 10234) / 254 % 254) ((2 + (x - 10234) % 254) ∷ [])
    ((2 + (y - 10234) % 254) ∷ []) (omega arith)
    (λ f. precedes_head (2 + (x - 10234) % 254) (2 + (y - 10234) % 254) [] [] (omega arith)))

-- numbers of as many pairs
as_many_rise : (n x y : ℕ) → 0 < x → x < y → y < 100 ^ n
    → Precedes (pair_bytes (without_last_zeros (digits 100 n x))) (pair_bytes (without_last_zeros (digits 100 n y)))
as_many_rise n x y some l f =
    rw (great_pairs n x some (omega arith), great_pairs n y (omega arith) f)
    (pairs_precede (digits 100 n x) (digits 100 n y) (length_digits 100 n x ∙ sym (length_digits 100 n y))
    (digits_less 100 n x y (lit< tt) f l))

great_rises : (most bound : ℕ) → bound ≤ 100 ^ most → Rises (λ v. great_bytes (pair_count most v) v) 1042490 bound
great_rises most bound fits x y a l b = by (cases_order (pair_count most x) (pair_count most y))
  where
    by : (pair_count most x ≡ pair_count most y) ⊎ ((pair_count most x < pair_count most y) ⊎ (pair_count most y < pair_count most x))
        → Precedes (great_bytes (pair_count most x) x) (great_bytes (pair_count most y) y)
    by (inl e) =
        rw e (precedes_more (128 + pair_count most y) (128 + pair_count most y)
        (pair_bytes (without_last_zeros (digits 100 (pair_count most y) x)))
        (pair_bytes (without_last_zeros (digits 100 (pair_count most y) y))) (omega arith)
        (λ f. as_many_rise (pair_count most y) x y (omega arith) l (count_fits most y (omega arith))))
    by (inr (inl m)) =
        precedes_head (128 + pair_count most x) (128 + pair_count most y)
        (pair_bytes (without_last_zeros (digits 100 (pair_count most x) x)))
        (pair_bytes (without_last_zeros (digits 100 (pair_count most y) y))) (omega arith)
    by (inr (inr m)) = absurd (omega (arith, count_grows most x y (omega arith)))

last_before_great : Precedes (middling_bytes (1042490 - 1)) (great_bytes (pair_count 127 1042490) 1042490)
unfolding pair_count
last_before_great = λ s t. refl

-- a greater number has greater bytes
pub number_bytes_rise : Rises number_bytes 0 (100 ^ 127)
number_bytes_rise =
    glue smallest_bytes _ 0 74 (100 ^ 127) (lit< tt) (lit< tt) smallest_rises
    (glue small_bytes _ 74 10234 (100 ^ 127) (lit< tt) (lit< tt) small_rises
    (glue middling_bytes (λ v. great_bytes (pair_count 127 v) v) 10234 1042490 (100 ^ 127) (lit< tt) (lit< tt) middling_rises
    (great_rises 127 (100 ^ 127) (lit≤ tt))
    last_before_great)
    (λ s t. refl))
    (λ s t. refl)
