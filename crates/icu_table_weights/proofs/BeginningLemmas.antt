-- Which weights are written as beginnings of others, by their digits
use Rattle.std.proofs.Common.{◌≡◌, ◌≢◌, ℕ, zero, suc, ◌*◌, ◌/◌, ◌%◌, ◌^◌, ◌<◌, ◌≤◌, List, [], ◌∷◌, refl, sym, ap, ◌∙◌, subst, inl, inr, ◌⊎◌, ◌↔◌, IsTrue, nat_eq, eq-eqb, arith, lit<}
use Rattle.std.proofs.lemmas.Bool.{eqb-true}
use Rattle.std.proofs.lemmas.Nat.{mod_below, le-div, div-add-mod'}
use Rattle.std.proofs.Math.Nat.{one-le-pow, pow-zero, zero-div, zero-mod, div-mul-le_self}
use Rattle.icu_order_levels.specs.ListOrder.{IsBeginning}
use Rattle.icu_order_levels.specs.WeightBytes.{before_nonzero, weight_bytes}

-- v, in k bytes, is 0, or has the highest byte of w and begins it below that
abbrev pub Begins : ℕ → ℕ → ℕ → Type 0
Begins zero v w = Unit {0}
Begins (suc k) v w = (v ≡ 0) ⊎ ((v / 256 ^ k ≡ w / 256 ^ k) × Begins k (v % 256 ^ k) (w % 256 ^ k))

pub some_pow : (k : ℕ) → 0 < 256 ^ k
some_pow k = one-le-pow k 256 (lit< tt)

-- ---- zero is written as nothing, and nothing else is
zero_bytes : (k : ℕ) → weight_bytes k 0 ≡ []
zero_bytes zero = refl
zero_bytes (suc k) = rw (zero-div (256 ^ k), zero-mod (256 ^ k), zero_bytes k)

front_empty : (x : ℕ) (xs : List ℕ) → before_nonzero x xs ≡ [] → (x ≡ 0) × (xs ≡ [])
front_empty zero [] e = (refl, refl)
front_empty (suc x) [] e = cc
front_empty x (y ∷ ys) e = cc

only_zero : (k v : ℕ) → v < 256 ^ k → weight_bytes k v ≡ [] → v ≡ 0
only_zero zero v l e = omega (arith, pow-zero 256)
only_zero (suc k) v l e =
    let parts = front_empty (v / 256 ^ k) (weight_bytes k (v % 256 ^ k)) e in
    let rest : v % 256 ^ k ≡ 0 = only_zero k (v % 256 ^ k) (mod_below v (256 ^ k) (some_pow k)) parts.1 in
    let high : v / 256 ^ k * 256 ^ k ≡ 0 * 256 ^ k = ap (λ q. q * 256 ^ k) parts.0 in
    omega (arith, div-add-mod' v (256 ^ k))

-- ---- one byte in front of each
split : (x y : ℕ) (xs ys : List ℕ) → IsBeginning (before_nonzero x xs) (before_nonzero y ys)
    → ((x ≡ 0) × (xs ≡ [])) ⊎ ((x ≡ y) × IsBeginning xs ys)
split zero y [] ys h = inl (refl, refl)
split (suc x) zero [] [] h = absurd h
split (suc x) (suc y) [] [] h = inr (h.0, tt)
split (suc x) y [] (z ∷ ys) h = inr (h.0, tt)
split x zero (u ∷ xs) [] h = absurd h
split x (suc y) (u ∷ xs) [] h = absurd h.1
split x y (u ∷ xs) (z ∷ ys) h = inr h

join : (x y : ℕ) (xs ys : List ℕ) → x ≡ y → IsBeginning xs ys → IsBeginning (before_nonzero x xs) (before_nonzero y ys)
join zero y [] ys e h = tt
join (suc x) zero [] [] e h = cc
join (suc x) (suc y) [] [] e h = (e, tt)
join (suc x) y [] (z ∷ ys) e h = (e, tt)
join x y (u ∷ xs) [] e h = absurd h
join x y (u ∷ xs) (z ∷ ys) e h = (e, h)

pub digits_begin : (k v w : ℕ) → v < 256 ^ k → IsBeginning (weight_bytes k v) (weight_bytes k w) → Begins k v w
digits_begin zero v w l h = tt
digits_begin (suc k) v w l h =
    by (split (v / 256 ^ k) (w / 256 ^ k) (weight_bytes k (v % 256 ^ k)) (weight_bytes k (w % 256 ^ k)) h)
    (λ b. digits_begin k (v % 256 ^ k) (w % 256 ^ k) (mod_below v (256 ^ k) (some_pow k)) b)
  where
    by : ((v / 256 ^ k ≡ 0) × (weight_bytes k (v % 256 ^ k) ≡ []))
        ⊎ ((v / 256 ^ k ≡ w / 256 ^ k) × IsBeginning (weight_bytes k (v % 256 ^ k)) (weight_bytes k (w % 256 ^ k)))
        → (IsBeginning (weight_bytes k (v % 256 ^ k)) (weight_bytes k (w % 256 ^ k)) → Begins k (v % 256 ^ k) (w % 256 ^ k))
        → (v ≡ 0) ⊎ ((v / 256 ^ k ≡ w / 256 ^ k) × Begins k (v % 256 ^ k) (w % 256 ^ k))
    by (inl p) ih =
        let rest : v % 256 ^ k ≡ 0 = only_zero k (v % 256 ^ k) (mod_below v (256 ^ k) (some_pow k)) p.1 in
        let high : v / 256 ^ k * 256 ^ k ≡ 0 * 256 ^ k = ap (λ q. q * 256 ^ k) p.0 in
        inl (omega (arith, div-add-mod' v (256 ^ k)))
    by (inr p) ih = inr (p.0, ih p.1)

pub bytes_begin : (k v w : ℕ) → Begins k v w → IsBeginning (weight_bytes k v) (weight_bytes k w)
bytes_begin zero v w h = tt
bytes_begin (suc k) v w (inl e) =
    subst (λ l. IsBeginning l (weight_bytes (suc k) w)) (sym (ap (λ n. weight_bytes (suc k) n) e ∙ zero_bytes (suc k))) tt
bytes_begin (suc k) v w (inr p) =
    join (v / 256 ^ k) (w / 256 ^ k) (weight_bytes k (v % 256 ^ k)) (weight_bytes k (w % 256 ^ k)) p.0
    (bytes_begin k (v % 256 ^ k) (w % 256 ^ k) p.1)

-- ---- order

-- what begins another is not above it
begins_le : (k v w : ℕ) → v < 256 ^ k → w < 256 ^ k → Begins k v w → v ≤ w
begins_le zero v w l m h = omega (arith, pow-zero 256)
begins_le (suc k) v w l m (inl e) = omega arith
begins_le (suc k) v w l m (inr p) =
    let rest = begins_le k (v % 256 ^ k) (w % 256 ^ k) (mod_below v (256 ^ k) (some_pow k)) (mod_below w (256 ^ k) (some_pow k)) p.1 in
    let high : v / 256 ^ k * 256 ^ k ≡ w / 256 ^ k * 256 ^ k = ap (λ q. q * 256 ^ k) p.0 in
    omega (arith, div-add-mod' v (256 ^ k), div-add-mod' w (256 ^ k))

div_le : (v w n : ℕ) → 0 < n → v ≤ w → v / n ≤ w / n
div_le v w n some l = le-div (v / n) w n some (omega (arith, div-mul-le_self v n))

-- and begins each between the two
begins_between : (k v u w : ℕ) → v ≤ u → u ≤ w → Begins k v w → Begins k v u
begins_between zero v u w a b h = tt
begins_between (suc k) v u w a b (inl e) = inl e
begins_between (suc k) v u w a b (inr p) =
    inr (vu, begins_between k (v % 256 ^ k) (u % 256 ^ k) (w % 256 ^ k) low high p.1)
  where
    vu : v / 256 ^ k ≡ u / 256 ^ k
    vu = omega (arith, p.0, div_le v u (256 ^ k) (some_pow k) a, div_le u w (256 ^ k) (some_pow k) b)

    first : v / 256 ^ k * 256 ^ k ≡ u / 256 ^ k * 256 ^ k
    first = ap (λ q. q * 256 ^ k) vu

    second : v / 256 ^ k * 256 ^ k ≡ w / 256 ^ k * 256 ^ k
    second = ap (λ q. q * 256 ^ k) p.0

    low : v % 256 ^ k ≤ u % 256 ^ k
    low = omega (arith, first, div-add-mod' v (256 ^ k), div-add-mod' u (256 ^ k))

    high : u % 256 ^ k ≤ w % 256 ^ k
    high = omega (arith, first, second, div-add-mod' w (256 ^ k), div-add-mod' u (256 ^ k))

pub beginning_le : (v w : ℕ) → v < 2 ^ 32 → w < 2 ^ 32 → IsBeginning (weight_bytes 4 v) (weight_bytes 4 w) → v ≤ w
beginning_le v w l m h = begins_le 4 v w l m (digits_begin 4 v w l h)

pub beginning_between : (v u w : ℕ) → v < 2 ^ 32 → v ≤ u → u ≤ w → IsBeginning (weight_bytes 4 v) (weight_bytes 4 w)
    → IsBeginning (weight_bytes 4 v) (weight_bytes 4 u)
beginning_between v u w l a b h = bytes_begin 4 v u (begins_between 4 v u w a b (digits_begin 4 v w l h))

pub begins_itself : (ps : List ℕ) → IsBeginning ps ps
begins_itself [] = tt
begins_itself (p ∷ ps) = (refl, begins_itself ps)

-- ---- two bytes moved up by two
low_zeros : (a b c d x y : ℕ) → a ≡ x → b ≡ y → c ≡ 0 → d ≡ 0
    → before_nonzero a (before_nonzero b (before_nonzero c (before_nonzero d []))) ≡ before_nonzero x (before_nonzero y [])
low_zeros a b c d x y e f g h = rw (e, f, g, h)

pub moved_up_bytes : (s : ℕ) → s < 2 ^ 16 → weight_bytes 4 (s * 2 ^ 16) ≡ weight_bytes 2 s
moved_up_bytes s l =
    low_zeros (s * 65536 / 16777216) (s * 65536 % 16777216 / 65536) (s * 65536 % 16777216 % 65536 / 256)
    (s * 65536 % 16777216 % 65536 % 256 / 1) (s / 256) (s % 256 / 1) (omega arith) (omega arith) (omega arith) (omega arith)

-- ---- four bytes, by how many at the end are zero

-- the bytes begin exactly if two numbers are equal
tells : (v w x y : ℕ) → v < 2 ^ 32 → (x ≡ y → Begins 4 v w) → (Begins 4 v w → x ≡ y)
    → IsTrue (nat_eq x y) ↔ IsBeginning (weight_bytes 4 v) (weight_bytes 4 w)
tells v w x y l f g = (λ t. bytes_begin 4 v w (f (eqb-true x y t)), λ b. eq-eqb x y (g (digits_begin 4 v w l b)))

pub four_bytes_begin : (v w : ℕ) → v < 2 ^ 32 → w < 2 ^ 32 → v % 256 ≢ 0
    → IsTrue (nat_eq v w) ↔ IsBeginning (weight_bytes 4 v) (weight_bytes 4 w)
four_bytes_begin v w l m n =
    tells v w v w l (λ e. inr (omega arith, inr (omega arith, inr (omega arith, inr (omega arith, tt))))) (λ h. omega (arith, h))

pub three_bytes_begin : (v w : ℕ) → v < 2 ^ 32 → w < 2 ^ 32 → v % 256 ≡ 0 → v % 65536 ≢ 0
    → IsTrue (nat_eq (v / 256) (w / 256)) ↔ IsBeginning (weight_bytes 4 v) (weight_bytes 4 w)
three_bytes_begin v w l m z n =
    tells v w (v / 256) (w / 256) l (λ e. inr (omega arith, inr (omega arith, inr (omega arith, inl (omega arith)))))
    (λ h. omega (arith, h))

pub two_bytes_begin : (v w : ℕ) → v < 2 ^ 32 → w < 2 ^ 32 → v % 65536 ≡ 0 → v % 16777216 ≢ 0
    → IsTrue (nat_eq (v / 65536) (w / 65536)) ↔ IsBeginning (weight_bytes 4 v) (weight_bytes 4 w)
two_bytes_begin v w l m z n =
    tells v w (v / 65536) (w / 65536) l (λ e. inr (omega arith, inr (omega arith, inl (omega arith)))) (λ h. omega (arith, h))

pub one_byte_begins : (v w : ℕ) → v < 2 ^ 32 → w < 2 ^ 32 → v % 16777216 ≡ 0 → v ≢ 0
    → IsTrue (nat_eq (v / 16777216) (w / 16777216)) ↔ IsBeginning (weight_bytes 4 v) (weight_bytes 4 w)
one_byte_begins v w l m z n =
    tells v w (v / 16777216) (w / 16777216) l (λ e. inr (omega arith, inl (omega arith))) (λ h. omega (arith, h))

pub none_begins : (w : ℕ) → IsBeginning (weight_bytes 4 0) (weight_bytes 4 w)
none_begins w = bytes_begin 4 0 w (inl refl)
