-- What stands above all that begins with bytes.
use Rattle.std.proofs.Common.{◌≡◌, ℕ, zero, suc, ◌+◌, ◌<◌, ◌≤◌, get_or, length, take, ◌&&◌, not, nat_lt, Bool, true, false, if◌then◌else◌, List, [], ◌∷◌, ◌++◌, Option, Some, None, refl, sym, ap, ap₂, ◌∙◌, inl, inr, ◌⊎◌, arith, Greater}
use Rattle.std.proofs.lemmas.Bool.{cases_order}
use Rattle.std.proofs.lemmas.Bool.Decides.{nat_tests}
use Rattle.std.specs.Ordering.{is_lt}
use Rattle.std.specs.Prelude.{slice_set}
use Rattle.icu_order_levels.specs.ListOrder.{list_order}
use Rattle.icu_order_levels.proofs.Order.{alike_head, less_head, more_number}
use Rattle.icu_order_levels.specs.beginnings.KeyBeginnings.{least_above, begins, is_below, raised, stands_between}
use Rattle.icu_order_levels.specs.beginnings.KeyBeginnings.{AreBytes}
use Rattle.icu_order_levels.proofs.beginnings.ListBeginningLemmas.{begins_alike, begins_unlike}

-- ---- the last byte

raised_last : (t : Bool) (x : ℕ) (one : List ℕ) (two : Option (List ℕ))
    → raised x (if t then Some one else two) ≡ (if t then Some (x ∷ one) else raised x two)
raised_last true x one two = refl
raised_last false x one two = refl

pub above_last : (xs : List ℕ) (b : ℕ) → least_above (xs ++ b ∷ []) ≡ (if nat_lt b 255 then Some (xs ++ (b + 1) ∷ []) else least_above xs)
above_last [] b = refl
above_last (x ∷ xs) b = ap (raised x) (above_last xs b) ∙ raised_last (nat_lt b 255) x (xs ++ (b + 1) ∷ []) (least_above xs)

-- ---- where bytes stand

more_head : (x y : ℕ) (xs ys : List ℕ) → y < x → list_order (x ∷ xs) (y ∷ ys) ≡ Greater
more_head x y xs ys h = rw (more_number x y h) refl

-- nothing is below no bytes
none_below : (bs : List ℕ) → is_lt (list_order bs []) ≡ false
none_below [] = refl
none_below (b ∷ bs) = refl

from_none : (bs : List ℕ) → true ≡ stands_between [] None bs
from_none [] = refl
from_none (b ∷ bs) = refl

-- of one first byte
raised_alike : (p b : ℕ) (bs : List ℕ) (bound : Option (List ℕ)) → b ≡ p → is_below (raised p bound) (b ∷ bs) ≡ is_below bound bs
raised_alike p b bs (Some us) e = ap is_lt (alike_head b p bs us e)
raised_alike p b bs None e = at (nat_lt p 255)
  where
    at : (t : Bool) → is_below (if t then Some ((p + 1) ∷ []) else None) (b ∷ bs) ≡ true
    at true = ap is_lt (less_head b (p + 1) bs [] (omega arith))
    at false = refl

next_below : (p b : ℕ) (bs : List ℕ) → p < b → is_lt (list_order (b ∷ bs) ((p + 1) ∷ [])) ≡ false
next_below p b bs l = by (cases_order b (p + 1))
  where
    by : (b ≡ p + 1) ⊎ ((b < p + 1) ⊎ (p + 1 < b)) → is_lt (list_order (b ∷ bs) ((p + 1) ∷ [])) ≡ false
    by (inl e) = ap is_lt (alike_head b (p + 1) bs [] e) ∙ none_below bs
    by (inr (inl m)) = absurd (omega arith)
    by (inr (inr m)) = ap is_lt (more_head b (p + 1) bs [] m)

-- of a greater first byte
raised_greater : (p b : ℕ) (bs : List ℕ) (bound : Option (List ℕ)) → p < b → b < 256 → is_below (raised p bound) (b ∷ bs) ≡ false
raised_greater p b bs (Some us) l f = ap is_lt (more_head b p bs us l)
raised_greater p b bs None l f = at (nat_lt p 255) (grind (arith, nat_tests))
  where
    at : (t : Bool) → t ≡ true → is_below (if t then Some ((p + 1) ∷ []) else None) (b ∷ bs) ≡ false
    at true e = next_below p b bs l
    at false e = absurd (cc)

neither : (t : Bool) → false ≡ (not true && t)
neither t = refl

last_false : (s t : Bool) → t ≡ false → false ≡ (not s && t)
last_false true t e = refl
last_false false t e = sym e

pub beginnings_between : (ps bs : List ℕ) → AreBytes ps → AreBytes bs → begins ps bs ≡ stands_between ps (least_above ps) bs
beginnings_between [] bs f g = from_none bs
beginnings_between (p ∷ ps) [] f g = refl
beginnings_between (p ∷ ps) (b ∷ bs) f g = by (cases_order p b) (beginnings_between ps bs f.1 g.1)
  where
    by : (p ≡ b) ⊎ ((p < b) ⊎ (b < p)) → begins ps bs ≡ stands_between ps (least_above ps) bs
        → begins (p ∷ ps) (b ∷ bs) ≡ stands_between (p ∷ ps) (least_above (p ∷ ps)) (b ∷ bs)
    by (inl e) ih =
        begins_alike p b ps bs e
        ∙ (ih
        ∙ ap₂ (λ (s t : Bool). not s && t) (ap is_lt (sym (alike_head b p bs ps (sym e)))) (sym (raised_alike p b bs (least_above ps) (sym e))))
    by (inr (inl l)) ih =
        begins_unlike p b ps bs (omega arith)
        ∙ last_false (is_lt (list_order (b ∷ bs) (p ∷ ps))) (is_below (raised p (least_above ps)) (b ∷ bs)) (raised_greater p b bs (least_above ps) l g.0)
    by (inr (inr l)) ih =
        begins_unlike p b ps bs (omega arith)
        ∙ ap (λ s. not s && is_below (raised p (least_above ps)) (b ∷ bs)) (sym (ap is_lt (less_head b p bs ps l)))

-- ---- the last of bytes, which is raised or goes

split_last : (xs : List ℕ) (n d : ℕ) → length xs ≡ suc n → xs ≡ take n xs ++ get_or xs n d ∷ []
split_last [] n d e = absurd (cc)
split_last (x ∷ []) zero d e = refl
split_last (x ∷ []) (suc n) d e = absurd (cc)
split_last (x ∷ y ∷ ys) zero d e = absurd (cc)
split_last (x ∷ y ∷ ys) (suc n) d e = ap (λ zs. x ∷ zs) (split_last (y ∷ ys) n d (cc))

set_last : (xs : List ℕ) (n v : ℕ) → length xs ≡ suc n → slice_set xs n v ≡ take n xs ++ v ∷ []
set_last [] n v e = absurd (cc)
set_last (x ∷ []) zero v e = refl
set_last (x ∷ []) (suc n) v e = absurd (cc)
set_last (x ∷ y ∷ ys) zero v e = absurd (cc)
set_last (x ∷ y ∷ ys) (suc n) v e = ap (λ zs. x ∷ zs) (set_last (y ∷ ys) n v (cc))

at_last : (xs : List ℕ) (n b : ℕ) → length xs ≡ suc n → b ≡ get_or xs n b
    → least_above xs ≡ (if nat_lt b 255 then Some (take n xs ++ (b + 1) ∷ []) else least_above (take n xs))
at_last xs n b e is = ap least_above (split_last xs n b e ∙ ap (λ x. take n xs ++ x ∷ []) (sym is)) ∙ above_last (take n xs) b

pub raises_last : (xs : List ℕ) (n b v : ℕ) → length xs ≡ suc n → b ≡ get_or xs n b → b < 255 → v ≡ b + 1 → least_above xs ≡ Some (slice_set xs n v)
raises_last xs n b v e is l f =
    at_last xs n b e is
    ∙ (at (nat_lt b 255) (grind (arith, nat_tests)) ∙ ap (λ zs. Some zs) (sym (set_last xs n v e ∙ ap (λ x. take n xs ++ x ∷ []) f)))
  where
    at : (t : Bool) → t ≡ true → (if t then Some (take n xs ++ (b + 1) ∷ []) else least_above (take n xs)) ≡ Some (take n xs ++ (b + 1) ∷ [])
    at true f = refl
    at false f = absurd (cc)

pub drops_last : (xs : List ℕ) (n b : ℕ) → length xs ≡ suc n → b ≡ get_or xs n b → 255 ≤ b → least_above xs ≡ least_above (take n xs)
drops_last xs n b e is l = at_last xs n b e is ∙ at (nat_lt b 255) (grind (arith, nat_tests))
  where
    at : (t : Bool) → t ≡ false → (if t then Some (take n xs ++ (b + 1) ∷ []) else least_above (take n xs)) ≡ least_above (take n xs)
    at true f = absurd (cc)
    at false f = refl

-- the value at the last place doesn't hang on what stands for none
pub one_value : (xs : List ℕ) (n a b : ℕ) → length xs ≡ suc n → a ≡ get_or xs n a → b ≡ get_or xs n b → a ≡ b
one_value [] n a b e f g = absurd (cc)
one_value (x ∷ []) zero a b e f g = f ∙ sym g
one_value (x ∷ []) (suc n) a b e f g = absurd (cc)
one_value (x ∷ y ∷ ys) zero a b e f g = absurd (cc)
one_value (x ∷ y ∷ ys) (suc n) a b e f g = one_value (y ∷ ys) n a b (cc) f g
