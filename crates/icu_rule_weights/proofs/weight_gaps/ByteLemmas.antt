-- The least number with given bytes, from those of its bytes behind the first.
use Rattle.std.proofs.Common.{◌≡◌, ℕ, suc, ◌+◌, ◌*◌, ◌/◌, ◌%◌, ◌^◌, ◌<◌, ◌≤◌, List, [], ◌∷◌, length, Option, Some, None, add-one, sym, ap, subst, inl, inr, ◌⊎◌, arith, lit<}
use Rattle.std.proofs.lemmas.Bool.{cases_lt}
use Rattle.std.proofs.lemmas.Nat.{mod_below, le-div, div-add-mod', div-mul-add, mod-mul-add}
use Rattle.std.proofs.Math.Nat.{pow-zero, pow-suc, div-mul-le_self, mul-le-mul_right, pow-le-pow_right}
use Rattle.icu_table_weights.proofs.BeginningLemmas.{some_pow}
use Rattle.icu_rule_weights.specs.declared.weight_gaps.byte_range.ByteRange.{ByteRange}
use Rattle.icu_rule_weights.specs.weight_gaps.GapWeights.{HasBytesIn, AreOrderedRanges, IsLeastOf, IsNextAbove, IsLeastAbove}

pub few_places : (k : ℕ) → k ≤ 3 → 256 ^ k ≤ 16777216
few_places k l = pow-le-pow_right {n = 256} (lit< tt) l

pub joined_fits : (c k t : ℕ) → c ≤ 255 → t < 256 ^ k → c * 256 ^ k + t < 256 ^ suc k
joined_fits c k t l m = omega (arith, pow-suc 256 k, mul-le-mul_right (256 ^ k) l)

-- a number whose highest byte is less is less
outweighs : (a b p s : ℕ) → a < b → s < p → a * p + s < b * p
outweighs a b p s l m = let h : a + 1 ≤ b = omega arith in omega (arith, mul-le-mul_right p h)

quotient_le : (x w p : ℕ) → 0 < p → x ≤ w → x / p ≤ w / p
quotient_le x w p some l = le-div (x / p) w p some (omega (arith, div-mul-le_self x p))

-- numbers are less or greater as what stands behind the same highest byte
less_behind : (v w p : ℕ) → v / p ≡ w / p → v % p ≤ w % p → v ≤ w
less_behind v w p e l = let same : v / p * p ≡ w / p * p = ap (λ q. q * p) e in omega (arith, div-add-mod' v p, div-add-mod' w p)

greater_behind : (v w p : ℕ) → v / p ≡ w / p → v < w → v % p < w % p
greater_behind v w p e l = let same : v / p * p ≡ w / p * p = ap (λ q. q * p) e in omega (arith, div-add-mod' v p, div-add-mod' w p)

-- a number whose highest byte is less is less, whatever follows
less_before : (v w p : ℕ) → 0 < p → v / p < w / p → v < w
less_before v w p some l =
    omega (arith, outweighs (v / p) (w / p) p (v % p) l (mod_below v p some), div-add-mod' v p, div-add-mod' w p)

module _ (r : ByteRange) (rs : List ByteRange) where
  abbrev place : ℕ
  place = 256 ^ length rs

  bytes_joined : (c t : ℕ) → r.least ≤ c → c ≤ r.greatest → t < place → HasBytesIn rs t → HasBytesIn (r ∷ rs) (c * place + t)
  bytes_joined c t a b l h = (
    subst (λ q. r.least ≤ q) (sym (div-mul-add c place t l)) a,
    subst (λ q. q ≤ r.greatest) (sym (div-mul-add c place t l)) b,
    subst (HasBytesIn rs) (sym (mod-mul-add c place t l)) h,
  )

  pub least_joined : (t : ℕ) → r.least ≤ r.greatest → r.least * place + t < 256 ^ suc (length rs) → IsLeastOf rs t → IsLeastOf (r ∷ rs) (r.least * place + t)
  least_joined t l m least = record {
    fits = m;
    bytes = bytes_joined r.least t (omega arith) l least.fits least.bytes;
    least = λ v h.
        omega (arith, mul-le-mul_right place h.0, least.least (v % place) h.2, div-add-mod' v place);
  }

  over : (c x t : ℕ) → r.least ≤ c → c ≤ r.greatest → c * place + t < 256 ^ suc (length rs) → IsLeastOf rs t → x < c * place
      → ((v : ℕ) → HasBytesIn (r ∷ rs) v → x < v → c ≤ v / place) → IsNextAbove (r ∷ rs) x (c * place + t)
  over c x t a b m least above from = record {
    fits = m;
    bytes = bytes_joined c t a b least.fits least.bytes;
    above = omega arith;
    least = λ v h l.
        omega (arith, mul-le-mul_right place (from v h l), least.least (v % place) h.2, div-add-mod' v place);
  }

  -- the highest byte is below the range
  pub next_least : (x t : ℕ) → x / place < r.least → r.least ≤ r.greatest → r.least * place + t < 256 ^ suc (length rs) → IsLeastOf rs t
      → IsNextAbove (r ∷ rs) x (r.least * place + t)
  next_least x t below l m least =
      over r.least x t (omega arith) l m least
      (omega (arith, outweighs (x / place) r.least place (x % place) below (mod_below x place (some_pow (length rs))), div-add-mod' x place))
      (λ v h n. h.0)

  -- the highest byte is above the range
  pub none_over : (x : ℕ) → r.greatest < x / place → IsLeastAbove (r ∷ rs) x None
  none_over x over v h =
      let less = less_before v x place (some_pow (length rs)) (omega (arith, h.1, over)) in omega (arith, less)

  -- a number with the same highest byte is next
  pub next_behind : (x t : ℕ) → r.least ≤ x / place → x / place ≤ r.greatest → x / place * place + t < 256 ^ suc (length rs) → IsNextAbove rs (x % place) t
      → IsNextAbove (r ∷ rs) x (x / place * place + t)
  next_behind x t a b m next = record {
    fits = m;
    bytes = bytes_joined (x / place) t a b next.fits next.bytes;
    above = omega (arith, next.above, div-add-mod' x place);
    least = λ v h l. by v h l (cases_lt (x / place) (v / place));
  } where
    by : (v : ℕ) → HasBytesIn (r ∷ rs) v → x < v → (x / place < v / place) ⊎ (v / place ≤ x / place)
        → x / place * place + t ≤ v
    by v h l (inl more) =
        omega (arith, outweighs (x / place) (v / place) place t more next.fits, div-add-mod' v place)
    by v h l (inr less) =
        let same : x / place ≡ v / place = omega (arith, quotient_le x v place (some_pow (length rs)) (omega arith), less) in
        let product : x / place * place ≡ v / place * place = ap (λ q. q * place) same in
        omega (arith, next.least (v % place) h.2 (greater_behind x v place same l), product, div-add-mod' v place)

  -- no number has the same highest byte and is next
  none_behind : (x v : ℕ) → IsLeastAbove rs (x % place) None → HasBytesIn (r ∷ rs) v → x < v → x / place < v / place
  none_behind x v none h l = by (cases_lt (x / place) (v / place))
    where
      by : (x / place < v / place) ⊎ (v / place ≤ x / place) → x / place < v / place
      by (inl more) = more
      by (inr less) =
          let same : x / place ≡ v / place = omega (arith, quotient_le x v place (some_pow (length rs)) (omega arith), less) in
          absurd (omega (arith, greater_behind x v place same l, none (v % place) h.2))

  -- a number with the next highest byte is next
  pub next_after : (x t : ℕ) → r.least ≤ x / place → x / place < r.greatest → (x / place + 1) * place + t < 256 ^ suc (length rs) → IsLeastAbove rs (x % place) None
      → IsLeastOf rs t → IsNextAbove (r ∷ rs) x ((x / place + 1) * place + t)
  next_after x t a b m none least =
      over (x / place + 1) x t (omega arith) (omega arith) m least
      (omega (arith, outweighs (x / place) (x / place + 1) place (x % place) (omega arith) (mod_below x place (some_pow (length rs))), div-add-mod' x place))
      (λ v h l. omega (arith, none_behind x v none h l))

  -- the highest byte is the last of the range
  pub none_after : (x : ℕ) → x / place ≡ r.greatest → IsLeastAbove rs (x % place) None → IsLeastAbove (r ∷ rs) x None
  none_after x e none v h = by (cases_lt x v)
    where
      by : (x < v) ⊎ (v ≤ x) → v ≤ x
      by (inl l) = absurd (omega (arith, none_behind x v none h l, h.1, e))
      by (inr l) = l

-- ---- as the code has them

one_more : (w k : ℕ) → w < 256 ^ (k + 1) → w < 256 ^ suc k
one_more w k l = subst (λ n. w < 256 ^ n) (add-one k) l

pub least_of_all : (ranges : List ByteRange) (r : ByteRange) (rs : List ByteRange) (t w : ℕ) → ranges ≡ r ∷ rs
    → AreOrderedRanges ranges → IsLeastOf rs t → w ≡ r.least * 256 ^ length rs + t → w < 256 ^ (length rs + 1) → IsLeastOf ranges w
least_of_all ranges r rs t w e ordered least made fits =
    let in_order = subst AreOrderedRanges e ordered in
    let small : r.least * 256 ^ length rs + t < 256 ^ suc (length rs) = subst (λ n. n < 256 ^ suc (length rs)) made (one_more w (length rs) fits) in
    subst (λ l. IsLeastOf l w) (sym e) (subst (IsLeastOf (r ∷ rs)) (sym made) (least_joined r rs t in_order.0 small least))

pub next_least_of_all : (ranges : List ByteRange) (r : ByteRange) (rs : List ByteRange) (p x t w : ℕ) → ranges ≡ r ∷ rs
    → p ≡ 256 ^ length rs → AreOrderedRanges ranges → IsLeastOf rs t → x / p < r.least → w ≡ r.least * 256 ^ length rs + t
    → w < 256 ^ (length rs + 1) → IsNextAbove ranges x w
next_least_of_all ranges r rs p x t w e f ordered least below made fits =
    let in_order = subst AreOrderedRanges e ordered in
    let small : r.least * 256 ^ length rs + t < 256 ^ suc (length rs) = subst (λ n. n < 256 ^ suc (length rs)) made (one_more w (length rs) fits) in
    let under : x / 256 ^ length rs < r.least = subst (λ q. x / q < r.least) f below in
    subst (λ l. IsNextAbove l x w) (sym e) (subst (IsNextAbove (r ∷ rs) x) (sym made) (next_least r rs x t under in_order.0 small least))

pub next_behind_of_all : (ranges : List ByteRange) (r : ByteRange) (rs : List ByteRange) (p x t w : ℕ) → ranges ≡ r ∷ rs
    → p ≡ 256 ^ length rs → IsNextAbove rs (x % p) t → r.least ≤ x / p → x / p ≤ r.greatest
    → w ≡ x / p * 256 ^ length rs + t → w < 256 ^ (length rs + 1) → IsNextAbove ranges x w
next_behind_of_all ranges r rs p x t w e f next a b made fits = subst (λ l. IsNextAbove l x w) (sym e) (subst (IsNextAbove (r ∷ rs) x) (sym same) found)
  where
    same : w ≡ x / 256 ^ length rs * 256 ^ length rs + t
    same = subst (λ q. w ≡ x / q * 256 ^ length rs + t) f made

    small : x / 256 ^ length rs * 256 ^ length rs + t < 256 ^ suc (length rs)
    small = subst (λ n. n < 256 ^ suc (length rs)) same (one_more w (length rs) fits)

    found : IsNextAbove (r ∷ rs) x (x / 256 ^ length rs * 256 ^ length rs + t)
    found =
        next_behind r rs x t (subst (λ q. r.least ≤ x / q) f a) (subst (λ q. x / q ≤ r.greatest) f b) small
        (subst (λ q. IsNextAbove rs (x % q) t) f next)

pub next_after_of_all : (ranges : List ByteRange) (r : ByteRange) (rs : List ByteRange) (p x t w : ℕ) → ranges ≡ r ∷ rs
    → p ≡ 256 ^ length rs → IsLeastAbove rs (x % p) None → IsLeastOf rs t → r.least ≤ x / p → x / p < r.greatest
    → w ≡ (x / p + 1) * 256 ^ length rs + t → w < 256 ^ (length rs + 1) → IsNextAbove ranges x w
next_after_of_all ranges r rs p x t w e f none least a b made fits = subst (λ l. IsNextAbove l x w) (sym e) (subst (IsNextAbove (r ∷ rs) x) (sym same) found)
  where
    same : w ≡ (x / 256 ^ length rs + 1) * 256 ^ length rs + t
    same = subst (λ q. w ≡ (x / q + 1) * 256 ^ length rs + t) f made

    small : (x / 256 ^ length rs + 1) * 256 ^ length rs + t < 256 ^ suc (length rs)
    small = subst (λ n. n < 256 ^ suc (length rs)) same (one_more w (length rs) fits)

    found : IsNextAbove (r ∷ rs) x ((x / 256 ^ length rs + 1) * 256 ^ length rs + t)
    found =
        next_after r rs x t (subst (λ q. r.least ≤ x / q) f a) (subst (λ q. x / q < r.greatest) f b) small
        (subst (λ q. IsLeastAbove rs (x % q) None) f none) least

pub none_over_all : (ranges : List ByteRange) (r : ByteRange) (rs : List ByteRange) (p x : ℕ) → ranges ≡ r ∷ rs
    → p ≡ 256 ^ length rs → r.greatest < x / p → IsLeastAbove ranges x None
none_over_all ranges r rs p x e f over =
    subst (λ l. IsLeastAbove l x None) (sym e) (none_over r rs x (subst (λ q. r.greatest < x / q) f over))

pub none_after_all : (ranges : List ByteRange) (r : ByteRange) (rs : List ByteRange) (p x : ℕ) → ranges ≡ r ∷ rs
    → p ≡ 256 ^ length rs → x / p ≡ r.greatest → IsLeastAbove rs (x % p) None → IsLeastAbove ranges x None
none_after_all ranges r rs p x e f last none =
    subst (λ l. IsLeastAbove l x None) (sym e)
    (none_after r rs x (subst (λ q. x / q ≡ r.greatest) f last) (subst (λ q. IsLeastAbove rs (x % q) None) f none))

pub divisor : (p k : ℕ) → p ≡ 256 ^ k → 0 < p
divisor p k e = subst (λ q. 0 < q) (sym e) (some_pow k)
