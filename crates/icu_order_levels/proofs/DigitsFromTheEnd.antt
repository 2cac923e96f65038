-- Digits from the end, as a program has them.
use Rattle.std.proofs.Common.{◌≡◌, ℕ, zero, suc, ◌+◌, ◌*◌, ◌/◌, ◌%◌, ◌^◌, ◌<◌, List, [], ◌∷◌, ◌++◌, sym, ap, ap₂, ◌∙◌, arith}
use Rattle.std.proofs.lemmas.Nat.{mod_below, div-mul-add, mod-mul-add}
use Rattle.std.proofs.Math.Arith.{mod-mul}
use Rattle.std.proofs.Math.Nat.{one-le-pow, pow-zero, pow-succ', pow-suc, div-div-eq-div-mul, div-one, mod-eq_of_lt}
use Rattle.icu_order_levels.specs.WeightBytes.{digits}

-- k + 1 digits are those of the quotient by the base, and then the remainder
pub digits_last : (base k v : ℕ) → 0 < base → v < base ^ suc k → digits base (suc k) v ≡ digits base k (v / base) ++ v % base ∷ []
digits_last base zero v some l =
    ap (λ z. z ∷ []) (ap (λ p. v / p) (pow-zero base) ∙ (div-one v ∙ sym (mod-eq_of_lt small)))
  where
    small : v < base
    small = omega (arith, pow-suc base 0, ap (λ z. z * base) (pow-zero base), l)
digits_last base (suc k) v some l =
    ap₂ (λ (d : ℕ) (ds : List ℕ). d ∷ ds) head
    (digits_last base k (v % base ^ suc k) some (mod_below v (base ^ suc k) (one-le-pow (suc k) base some))
    ∙ ap₂ (λ (q r : ℕ). digits base k q ++ r ∷ []) quotient remainder)
  where
    head : v / base ^ suc k ≡ v / base / base ^ k
    head = ap (λ p. v / p) (pow-succ' base k) ∙ sym (div-div-eq-div-mul v base (base ^ k))

    parts : v % base ^ suc k ≡ (v / base % base ^ k) * base + v % base
    parts = ap (λ p. v % p) (pow-suc base k) ∙ mod-mul v (one-le-pow k base some) some

    quotient : v % base ^ suc k / base ≡ v / base % base ^ k
    quotient = ap (λ z. z / base) parts ∙ div-mul-add (v / base % base ^ k) base (v % base) (mod_below v base some)

    remainder : v % base ^ suc k % base ≡ v % base
    remainder = ap (λ z. z % base) parts ∙ mod-mul-add (v / base % base ^ k) base (v % base) (mod_below v base some)
