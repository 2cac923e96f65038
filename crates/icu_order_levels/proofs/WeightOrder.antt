-- Weights as they are written.
use Rattle.std.proofs.Common.{◌≡◌, ℕ, zero, suc, ◌/◌, ◌%◌, ◌^◌, ◌<◌, List, [], ◌∷◌, ◌++◌, refl, ◌∙◌, ⊎_elim, arith, lit<, Less}
use Rattle.std.proofs.lemmas.Nat.{mod_below}
use Rattle.std.proofs.Math.Nat.{one-le-pow, pow-zero}
use Rattle.icu_order_levels.specs.ListOrder.{list_order, IsUnder, IsOver, IsBeginning, Precedes}
use Rattle.icu_order_levels.specs.WeightBytes.{before_nonzero, digits, weight_bytes}
use Rattle.icu_order_levels.proofs.Order.{less_head, alike_head, less_cases}
use Rattle.icu_order_levels.proofs.RunOrder.{quotients}

-- what is less, and is no beginning, precedes
pub precedes : (ps qs : List ℕ) → list_order ps qs ≡ Less → (IsBeginning ps qs → ⊥) → Precedes ps qs
precedes [] qs h n s t = absurd (n tt)
precedes (p ∷ ps) [] h n s t = cc
precedes (p ∷ ps) (q ∷ qs) h n s t =
    ⊎_elim (λ l. less_head p q (ps ++ s) (qs ++ t) l)
    (λ e. alike_head p q (ps ++ s) (qs ++ t) e.0 ∙ precedes ps qs e.1 (λ b. n (e.0, b)) s t)
    (less_cases p q ps qs h)

pow_some : (base k : ℕ) → 0 < base → 0 < base ^ k
pow_some base k l = one-le-pow k base l

-- digits to a base keep the order of the numbers
pub digits_less : (base k v w : ℕ) → 0 < base → w < base ^ k → v < w → list_order (digits base k v) (digits base k w) ≡ Less
digits_less base zero v w some f l = absurd (omega (arith, pow-zero base))
digits_less base (suc k) v w some f l =
    ⊎_elim (λ h. less_head (v / base ^ k) (w / base ^ k) (digits base k (v % base ^ k)) (digits base k (w % base ^ k)) h)
    (λ h. alike_head (v / base ^ k) (w / base ^ k) (digits base k (v % base ^ k)) (digits base k (w % base ^ k)) h.0
    ∙ digits_less base k (v % base ^ k) (w % base ^ k) some (mod_below w (base ^ k) (pow_some base k some)) h.1)
    (quotients v w (base ^ k) (pow_some base k some) l)

-- lists of one length keep their order without the last zeros
pub trimmed_less : (k v w : ℕ) → list_order (digits 256 k v) (digits 256 k w) ≡ Less → list_order (weight_bytes k v) (weight_bytes k w)
    ≡ Less
trimmed_less zero v w h = h
trimmed_less (suc k) v w h =
    ⊎_elim (λ l. first (v / 256 ^ k) (w / 256 ^ k) (weight_bytes k (v % 256 ^ k)) (weight_bytes k (w % 256 ^ k)) l)
    (λ e. then (v / 256 ^ k) (w / 256 ^ k) (weight_bytes k (v % 256 ^ k)) (weight_bytes k (w % 256 ^ k)) e.0
    (trimmed_less k (v % 256 ^ k) (w % 256 ^ k) e.1))
    (less_cases (v / 256 ^ k) (w / 256 ^ k) (digits 256 k (v % 256 ^ k)) (digits 256 k (w % 256 ^ k)) h)
  where
    first : (x y : ℕ) (xs ys : List ℕ) → x < y → list_order (before_nonzero x xs) (before_nonzero y ys) ≡ Less
    first x zero xs ys l = absurd (omega arith)
    first zero (suc y) [] [] l = refl
    first zero (suc y) [] (z ∷ ys) l = refl
    first (suc x) (suc y) [] [] l = less_head (suc x) (suc y) [] [] l
    first (suc x) (suc y) [] (z ∷ ys) l = less_head (suc x) (suc y) [] (z ∷ ys) l
    first x (suc y) (u ∷ xs) [] l = less_head x (suc y) (u ∷ xs) [] l
    first x (suc y) (u ∷ xs) (z ∷ ys) l = less_head x (suc y) (u ∷ xs) (z ∷ ys) l

    then : (x y : ℕ) (xs ys : List ℕ) → x ≡ y → list_order xs ys ≡ Less → list_order (before_nonzero x xs) (before_nonzero y ys) ≡ Less
    then x y [] [] e l = cc
    then x y (u ∷ xs) [] e l = cc
    then zero y [] (z ∷ ys) e l = refl
    then (suc x) y [] (z ∷ ys) e l = alike_head (suc x) y [] (z ∷ ys) e ∙ l
    then x y (u ∷ xs) (z ∷ ys) e l = alike_head x y (u ∷ xs) (z ∷ ys) e ∙ l

pub weights_precede : (k v w : ℕ) → w < 256 ^ k → v < w → (IsBeginning (weight_bytes k v) (weight_bytes k w) → ⊥)
    → Precedes (weight_bytes k v) (weight_bytes k w)
weights_precede k v w f l n = precedes _ _ (trimmed_less k v w (digits_less 256 k v w (lit< tt) f l)) n

-- a first byte that isn't 0 stays first
pub over_first : (n x : ℕ) (xs : List ℕ) → n < x → IsOver n (before_nonzero x xs)
over_first n zero [] l = absurd (omega arith)
over_first n (suc x) [] l = l
over_first n x (y ∷ ys) l = l

pub under_first : (n x : ℕ) (xs : List ℕ) → x < n → IsUnder n (before_nonzero x xs)
under_first n zero [] l = tt
under_first n (suc x) [] l = l
under_first n x (y ∷ ys) l = l
