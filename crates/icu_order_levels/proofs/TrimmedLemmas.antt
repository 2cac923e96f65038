-- Lists without the zeros at their end.
use Rattle.std.proofs.Common.{◌≡◌, ℕ, zero, suc, ◌+◌, List, [], ◌∷◌, ◌++◌, refl, sym, ap, ◌∙◌, arith, length, take, get_or}
use Rattle.std.proofs.lemmas.List.{take_more}
use Rattle.std.proofs.Math.Seq.{take-length}
use Rattle.icu_order_levels.specs.WeightBytes.{before_nonzero, without_last_zeros}

pub zero_dropped : (xs : List ℕ) → without_last_zeros (xs ++ 0 ∷ []) ≡ without_last_zeros xs
zero_dropped [] = refl
zero_dropped (x ∷ xs) = ap (before_nonzero x) (zero_dropped xs)

before_some : (x y : ℕ) (ys : List ℕ) → before_nonzero x (y ∷ ys) ≡ x ∷ y ∷ ys
before_some zero y ys = refl
before_some (suc x) y ys = refl

-- a list that ends in another number has none
pub kept_whole : (xs : List ℕ) (y : ℕ) → without_last_zeros (xs ++ suc y ∷ []) ≡ xs ++ suc y ∷ []
kept_whole [] y = refl
kept_whole (x ∷ []) y = before_some x (suc y) []
kept_whole (x ∷ (z ∷ xs)) y = ap (before_nonzero x) (kept_whole (z ∷ xs) y) ∙ before_some x z (xs ++ suc y ∷ [])

pub at_end : (xs : List ℕ) (n : ℕ) → length xs ≡ n + 1 → xs ≡ take n xs ++ get_or xs n 0 ∷ []
at_end xs n e = sym (take-length xs) ∙ (ap (λ k. take k xs) e ∙ take_more xs n 0 (omega arith))

pub last_zero : (xs : List ℕ) (n : ℕ) → length xs ≡ n + 1 → get_or xs n 0 ≡ 0 → without_last_zeros (take n xs) ≡ without_last_zeros xs
last_zero xs n e z = sym (ap without_last_zeros (at_end xs n e ∙ ap (λ x. take n xs ++ x ∷ []) z) ∙ zero_dropped (take n xs))

pub last_other : (xs : List ℕ) (n y : ℕ) → length xs ≡ n + 1 → get_or xs n 0 ≡ suc y → xs ≡ without_last_zeros xs
last_other xs n y e z =
    let whole : xs ≡ take n xs ++ suc y ∷ [] = at_end xs n e ∙ ap (λ x. take n xs ++ x ∷ []) z in
    whole ∙ sym (ap without_last_zeros whole ∙ kept_whole (take n xs) y)
