-- Lists that begin with others.
use Rattle.std.proofs.Common.{◌≡◌, ◌≢◌, ◌==◌, ◌&&◌, ℕ, true, false, List, [], ◌∷◌, ◌++◌, refl, sym, ap, ap₂, ◌∙◌, inl, inr, ◌⊎◌, append_assoc, arith, eqb-true, eq-eqb, ne_eqb}
use Rattle.std.proofs.lemmas.Bool.{cases_Bool, and_parts}
use Rattle.icu_order_levels.specs.ListOrder.{IsUnder, IsOver, Precedes}
use Rattle.icu_order_levels.proofs.Order.{same_lists_order}
use Rattle.icu_order_levels.specs.beginnings.KeyBeginnings.{begins}

-- one number more on either side
pub begins_alike : (x y : ℕ) (xs ys : List ℕ) → x ≡ y → begins (x ∷ xs) (y ∷ ys) ≡ begins xs ys
begins_alike x y xs ys e = ap (λ b. b && begins xs ys) (eq-eqb x y e)

pub begins_unlike : (x y : ℕ) (xs ys : List ℕ) → x ≢ y → begins (x ∷ xs) (y ∷ ys) ≡ false
begins_unlike x y xs ys n = ap (λ b. b && begins xs ys) (ne_eqb x y n)

-- the same numbers in front of both
pub begins_front : (fs xs ys : List ℕ) → begins (fs ++ xs) (fs ++ ys) ≡ begins xs ys
begins_front [] xs ys = refl
begins_front (f ∷ fs) xs ys = begins_alike f f (fs ++ xs) (fs ++ ys) refl ∙ begins_front fs xs ys

-- the rest of a list that begins with another
pub record Rest (xs ys : List ℕ) : Type 0 where
  pub rest : List ℕ
  pub is : ys ≡ xs ++ rest

pub begins_rest : (xs ys : List ℕ) → begins xs ys ≡ true → Rest xs ys
begins_rest [] ys h = record { rest = ys; is = refl }
begins_rest (x ∷ xs) [] h = absurd (cc)
begins_rest (x ∷ xs) (y ∷ ys) h =
    let parts = and_parts (x == y) (begins xs ys) h in
    let more = begins_rest xs ys parts.1 in
    record { rest = more.rest; is = ap₂ (λ (z : ℕ) (zs : List ℕ). z ∷ zs) (sym (eqb-true x y parts.0)) more.is }

-- one that comes before another, whatever follows, is never the same
clash : (ps qs s t : List ℕ) → Precedes ps qs → ps ++ s ≡ qs ++ t → ⊥
clash ps qs s t h e = let less = h s t in let same = same_lists_order (ps ++ s) (qs ++ t) e in cc

-- and so neither begins with the other
pub begins_lesser : (ps qs s t : List ℕ) → Precedes ps qs → begins (ps ++ s) (qs ++ t) ≡ false
begins_lesser ps qs s t h = by (cases_Bool (begins (ps ++ s) (qs ++ t)))
  where
    by : (begins (ps ++ s) (qs ++ t) ≡ true) ⊎ (begins (ps ++ s) (qs ++ t) ≡ false) → begins (ps ++ s) (qs ++ t) ≡ false
    by (inl e) =
        let r = begins_rest (ps ++ s) (qs ++ t) e in
        absurd (clash ps qs (s ++ r.rest) t h (sym (append_assoc ps s r.rest) ∙ sym r.is))
    by (inr e) = e

pub begins_greater : (ps qs s t : List ℕ) → Precedes qs ps → begins (ps ++ s) (qs ++ t) ≡ false
begins_greater ps qs s t h = by (cases_Bool (begins (ps ++ s) (qs ++ t)))
  where
    by : (begins (ps ++ s) (qs ++ t) ≡ true) ⊎ (begins (ps ++ s) (qs ++ t) ≡ false) → begins (ps ++ s) (qs ++ t) ≡ false
    by (inl e) =
        let r = begins_rest (ps ++ s) (qs ++ t) e in
        absurd (clash qs ps t (s ++ r.rest) h (r.is ∙ append_assoc ps s r.rest))
    by (inr e) = e

-- what begins above 01 doesn't begin what is nothing or begins below 02
pub begins_over : (ps s more : List ℕ) → IsOver 1 ps → IsUnder 2 more → begins (ps ++ s) more ≡ false
begins_over [] s more o u = absurd o
begins_over (p ∷ ps) s [] o u = refl
begins_over (p ∷ ps) s (m ∷ ms) o u = begins_unlike p m (ps ++ s) ms (λ e. omega arith)
