-- The last characters of a contraction.
use Rattle.std.proofs.Common.{◌≡◌, ℕ, suc, ◌-◌, ◌<◌, ◌≤◌, ◌&&◌, ◌||◌, Bool, true, false, List, [], ◌∷◌, length, get_or, refl, ap, ◌∙◌, arith}
use Rattle.std.proofs.lemmas.List.{get_or_default}
use Rattle.icu_rule_steps.specs.RuleFaults.{ends_in_syllable, is_leading_jamo, is_vowel_jamo}

further : (c n m : ℕ) (xs : List ℕ) → n ≡ suc m → get_or (c ∷ xs) n 0 ≡ get_or xs m 0
further c n m xs e = ap (λ k. get_or (c ∷ xs) k 0) e

pub short : (xs : List ℕ) → length xs < 2 → false ≡ ends_in_syllable xs
short [] few = refl
short (c ∷ []) few = refl
short (c ∷ d ∷ xs) few = absurd (omega arith)

pub by_last : (xs : List ℕ) (y z : ℕ) → 2 ≤ length xs → y ≡ get_or xs (length xs - 2) 0 → z ≡ get_or xs (length xs - 1) 0
    → (is_leading_jamo z || (is_vowel_jamo z && is_leading_jamo y)) ≡ ends_in_syllable xs
by_last [] y z many before last = absurd (omega arith)
by_last (c ∷ []) y z many before last = absurd (omega arith)
by_last (c ∷ d ∷ []) y z many before last = rw (before, last) refl
by_last (c ∷ d ∷ e ∷ xs) y z many before last =
    by_last (d ∷ e ∷ xs) y z (omega arith)
    (before ∙ further c (length (c ∷ d ∷ e ∷ xs) - 2) (length (d ∷ e ∷ xs) - 2) (d ∷ e ∷ xs) (omega arith))
    (last ∙ further c (length (c ∷ d ∷ e ∷ xs) - 1) (length (d ∷ e ∷ xs) - 1) (d ∷ e ∷ xs) (omega arith))

pub or_right : (a b : Bool) → a ≡ false → (a || b) ≡ b
or_right a b e = rw e refl

pub and_right : (a b : Bool) → a ≡ true → (a && b) ≡ b
and_right a b e = rw e refl

pub and_left : (a b : Bool) → a ≡ false → (a && b) ≡ false
and_left a b e = rw e refl

pub last_at : (xs : List ℕ) (z : ℕ) → 2 ≤ length xs → z ≡ get_or xs (length xs - 1) z → z ≡ get_or xs (length xs - 1) 0
last_at xs z many is = is ∙ get_or_default xs (length xs - 1) z 0 (omega arith)

pub before_at : (xs : List ℕ) (y : ℕ) → 2 ≤ length xs → y ≡ get_or xs (length xs - 2) y → y ≡ get_or xs (length xs - 2) 0
before_at xs y many is = is ∙ get_or_default xs (length xs - 2) y 0 (omega arith)
