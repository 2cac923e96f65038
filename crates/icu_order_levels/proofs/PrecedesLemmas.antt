-- When one list comes before another whatever follows either.
use Rattle.std.proofs.Common.{◌≡◌, ℕ, zero, suc, ◌/◌, ◌%◌, ◌^◌, ◌<◌, List, [], ◌∷◌, ◌++◌, refl, sym, subst, ◌∙◌, arith, append_assoc}
use Rattle.icu_order_levels.specs.ListOrder.{IsUnder, IsOver, IsBeginning, Precedes}
use Rattle.icu_order_levels.specs.WeightBytes.{before_nonzero, weight_bytes}
use Rattle.icu_order_levels.proofs.Order.{alike_head, same_front}
use Rattle.icu_order_levels.proofs.LevelOrder.{under_over, over_append, under_append}

-- what is under n and what is over it
pub precedes_over : (n : ℕ) (ps qs : List ℕ) → IsOver 0 ps → IsUnder (suc n) ps → IsOver n qs → Precedes ps qs
precedes_over n ps qs a u v s t = under_over n (ps ++ s) (qs ++ t) (under_append (suc n) 0 ps s a u) (over_append n qs t v)

-- the same numbers in front of both
pub precedes_front : (rs ps qs : List ℕ) → Precedes ps qs → Precedes (rs ++ ps) (rs ++ qs)
precedes_front rs ps qs h s t = rw (append_assoc rs ps s, append_assoc rs qs t) (same_front rs (ps ++ s) (qs ++ t) ∙ h s t)

-- and taken off
pub precedes_rest : (x y : ℕ) (ps qs : List ℕ) → x ≡ y → Precedes (x ∷ ps) (y ∷ qs) → Precedes ps qs
precedes_rest x y ps qs e h s t = sym (alike_head x y (ps ++ s) (qs ++ t) e) ∙ h s t

-- a first byte that isn't 0 stays first
pub nonzero_first : (x : ℕ) (xs : List ℕ) → 0 < x → before_nonzero x xs ≡ x ∷ xs
nonzero_first zero xs l = absurd (omega arith)
nonzero_first (suc x) [] l = refl
nonzero_first (suc x) (y ∷ ys) l = refl

-- weights of which one begins the other have one lead, and so does what is below it
pub begins_alike : (k v w : ℕ) → 0 < v / 256 ^ k → 0 < w / 256 ^ k → IsBeginning (weight_bytes (suc k) v) (weight_bytes (suc k) w)
    → (v / 256 ^ k ≡ w / 256 ^ k) × IsBeginning (weight_bytes k (v % 256 ^ k)) (weight_bytes k (w % 256 ^ k))
begins_alike k v w a b h =
    subst (λ l. IsBeginning (v / 256 ^ k ∷ weight_bytes k (v % 256 ^ k)) l) (nonzero_first (w / 256 ^ k) (weight_bytes k (w % 256 ^ k)) b)
    (subst (λ l. IsBeginning l (weight_bytes (suc k) w)) (nonzero_first (v / 256 ^ k) (weight_bytes k (v % 256 ^ k)) a) h)
