-- The bytes of numbers are bytes, and end as the pieces of numbers do.
use Rattle.std.proofs.Common.{◌≡◌, ℕ, zero, suc, ◌+◌, ◌-◌, ◌*◌, ◌/◌, ◌%◌, ◌^◌, ◌<◌, ◌≤◌, List, [], ◌∷◌, refl, sym, subst, inl, inr, ◌⊎◌, arith, lit<, lit≤}
use Rattle.std.proofs.lemmas.Bool.{cases_lt, lt-ltb, le-ltb}
use Rattle.std.proofs.lemmas.Nat.{mod_below, div_below}
use Rattle.std.proofs.Math.Nat.{one-le-pow, pow-suc, pow-le-pow_right}
use Rattle.std.specs.List.{AllByRecursion}
use Rattle.icu_order_levels.specs.WeightBytes.{digits, before_nonzero, without_last_zeros}
use Rattle.icu_order_levels.specs.Numbers.{pair_count, pair_bytes, great_bytes, number_bytes}
use Rattle.icu_order_levels.proofs.NumberOrder.{count_most, count_fits, not_zeros, some_left}

-- a byte other than 0
abbrev pub IsByte : ℕ → Type 0
IsByte b = (0 < b) × (b < 256)

-- bytes, odd ones up to an even one at the end
abbrev pub OddThenEven : List ℕ → Type 0
OddThenEven [] = ⊥
OddThenEven (b ∷ []) = IsByte b × (b % 2 ≡ 0)
OddThenEven (b ∷ (c ∷ bs)) = IsByte b × (b % 2 ≡ 1) × OddThenEven (c ∷ bs)

-- the four forms of a number's bytes
pub data Form (bs : List ℕ) : Type 0 where
  smallest : (b : ℕ) → bs ≡ b ∷ [] → (2 ≤ b) × (b ≤ 75) → Form bs
  small : (b c : ℕ) → bs ≡ b ∷ c ∷ [] → (76 ≤ b) × (b ≤ 115) → (2 ≤ c) × (c ≤ 255) → Form bs
  middling : (b c d : ℕ) → bs ≡ b ∷ c ∷ d ∷ [] → (116 ≤ b) × (b ≤ 131) → (2 ≤ c) × (c ≤ 255) → (2 ≤ d) × (d ≤ 255) → Form bs
  great : (b : ℕ) (cs : List ℕ) → bs ≡ b ∷ cs → (132 ≤ b) × (b ≤ 255) → OddThenEven cs → Form bs

digits_below : (k v : ℕ) → v < 100 ^ k → AllByRecursion (λ d. d < 100) (digits 100 k v)
digits_below zero v l = tt
digits_below (suc k) v l = (
  div_below v (100 ^ k) 100 (one-le-pow k 100 (lit≤ tt)) (omega (arith, pow-suc 100 k)),
  digits_below k (v % 100 ^ k)
      (mod_below v (100 ^ k) (one-le-pow k 100 (lit≤ tt))),
)

-- digits stay digits without the zeros that they end in
left_digits : (ps : List ℕ) → AllByRecursion (λ d. d < 100) ps → AllByRecursion (λ d. d < 100) (without_last_zeros ps)
left_digits [] a = tt
left_digits (p ∷ ps) a = before p (without_last_zeros ps) a.0 (left_digits ps a.1)
  where
    before : (x : ℕ) (xs : List ℕ) → x < 100 → AllByRecursion (λ d. d < 100) xs → AllByRecursion (λ d. d < 100) (before_nonzero x xs)
    before zero [] l h = tt
    before (suc x) [] l h = (l, tt)
    before x (y ∷ ys) l h = (l, h)

pairs_end : (p : ℕ) (ps : List ℕ) → AllByRecursion (λ d. d < 100) (p ∷ ps) → OddThenEven (pair_bytes (p ∷ ps))
pairs_end p [] a = ((omega arith, omega (arith, a.0)), omega arith)
pairs_end p (q ∷ qs) a = more (pair_bytes (q ∷ qs)) (pairs_end q qs a.1)
  where
    more : (bs : List ℕ) → OddThenEven bs → OddThenEven ((11 + 2 * p) ∷ bs)
    more [] h = absurd h
    more (b ∷ bs) h = ((omega arith, omega (arith, a.0)), omega arith, h)

pairs_of_digits : (n v : ℕ) → 0 < v → v < 100 ^ n → OddThenEven (pair_bytes (without_last_zeros (digits 100 n v)))
pairs_of_digits n v some l =
    let r = some_left (digits 100 n v) (not_zeros n v some l) in
    subst (λ z. OddThenEven (pair_bytes z)) (sym r.2)
    (pairs_end r.0 r.1 (subst (AllByRecursion (λ d. d < 100)) r.2 (left_digits (digits 100 n v) (digits_below n v l))))

-- a great number has more than three pairs
four_pairs : (most v : ℕ) → v < 100 ^ most → 1042490 ≤ v → 4 ≤ pair_count most v
four_pairs most v l g = by (cases_lt (pair_count most v) 4)
  where
    by : (pair_count most v < 4) ⊎ (4 ≤ pair_count most v) → 4 ≤ pair_count most v
    by (inl few) =
        let least : pair_count most v ≤ 3 = omega arith in let p : 100 ^ pair_count most v ≤ 100 ^ 3 = pow-le-pow_right
        (lit< tt) least in absurd (omega (arith, count_fits most v l))
    by (inr h) = h

great_form : (most v : ℕ) → most ≤ 127 → v < 100 ^ most → 1042490 ≤ v → Form (great_bytes (pair_count most v) v)
great_form most v few l g =
    let four = four_pairs most v l g in
    let m = count_most most v in
    great (128 + pair_count most v) (pair_bytes (without_last_zeros (digits 100 (pair_count most v) v))) refl (omega arith, omega arith)
    (pairs_of_digits (pair_count most v) v (omega arith) (count_fits most v l))

-- the bytes of a number below 10^254
pub number_form : (v : ℕ) → v < 100 ^ 127 → Form (number_bytes v)
number_form v l = by (cases_lt v 74) (cases_lt v 10234) (cases_lt v 1042490)
  where
    by : (v < 74) ⊎ (74 ≤ v) → (v < 10234) ⊎ (10234 ≤ v) → (v < 1042490) ⊎ (1042490 ≤ v) → Form (number_bytes v)
    by (inl a) b c = rw (lt-ltb v 74 a) (smallest (2 + v) refl (omega arith, omega arith))
    by (inr a) (inl b) c =
        rw (le-ltb v 74 a, lt-ltb v 10234 b) (small (76 + (v - 74) / 254) (2 + (v - 74) % 254) refl (omega arith, omega arith)
        (omega arith, omega arith))
    by (inr a) (inr b) (inl c) = rw (le-ltb v 74 a, le-ltb v 10234 b, lt-ltb v 1042490 c)
        (middling (116 + (v - 10234) / 254 / 254) (2 + (v - 10234) / 254 % 254) (2 + (v - 10234) % 254) refl (omega arith, omega arith)
        (omega arith, omega arith) (omega arith, omega arith))
    by (inr a) (inr b) (inr c) = rw (le-ltb v 74 a, le-ltb v 10234 b, le-ltb v 1042490 c) (great_form 127 v (lit≤ tt) l c)

all_bytes : (bs : List ℕ) → OddThenEven bs → AllByRecursion IsByte bs
all_bytes [] h = absurd h
all_bytes (b ∷ []) h = (h.0, tt)
all_bytes (b ∷ (c ∷ bs)) h = (h.0, all_bytes (c ∷ bs) h.2)

pub form_bytes : (bs : List ℕ) → Form bs → AllByRecursion IsByte bs
form_bytes bs (smallest b e l) = subst (AllByRecursion IsByte) (sym e) ((omega (arith, l.0), omega (arith, l.1)), tt)
form_bytes bs (small b c e l m) =
    subst (AllByRecursion IsByte) (sym e) ((omega (arith, l.0), omega (arith, l.1)), ((omega (arith, m.0), omega (arith, m.1)), tt))
form_bytes bs (middling b c d e l m n) =
    subst (AllByRecursion IsByte) (sym e)
    ((omega (arith, l.0), omega (arith, l.1)), ((omega (arith, m.0), omega (arith, m.1)), ((omega (arith, n.0), omega (arith, n.1)), tt)))
form_bytes bs (great b cs e l o) = subst (AllByRecursion IsByte) (sym e) ((omega (arith, l.0), omega (arith, l.1)), all_bytes cs o)
