-- The weights of whole numbers may stand among primaries.
use Rattle.std.proofs.Common.{◌≡◌, ℕ, ◌/◌, ◌%◌, ◌^◌, ◌<◌, ◌≤◌, Bool, true, false, ◌&&◌, ◌||◌, nat_le, ◌==◌, List, [], ◌∷◌, ◌++◌, refl, sym, ap, ◌∙◌, subst, inl, inr, arith, lit<, eq-eqb, ne_eqb}
use Rattle.std.proofs.lemmas.Bool.Decides.{nat_tests}
use Rattle.icu_order_levels.specs.WeightBytes.{digits, without_last_zeros, before_nonzero}
use Rattle.icu_order_levels.specs.Primaries.{lead, below_lead, second_byte}
use Rattle.icu_order_levels.specs.Premises.{IsFirstPiece, IsFurtherPiece, IsNumberWeight, goes_on, IsPrimaryList}
use Rattle.icu_order_levels.specs.Numbers.{number_weight, in_threes, number_bytes, number_weights}
use Rattle.icu_order_levels.proofs.PrecedesLemmas.{nonzero_first}
use Rattle.icu_order_levels.proofs.NumberBytes.{OddThenEven, Form, smallest, small, middling, great, number_form}

-- ---- one weight
module _ (numeric a b c : ℕ) (n : numeric < 256) (fa : a < 256) (fb : b < 256) (fc : c < 256) where
  abbrev weight : ℕ
  weight = number_weight numeric a b c

  pub weight_fits : number_weight numeric a b c < 256 ^ 4
  weight_fits = omega arith

  pub weight_lead : lead (number_weight numeric a b c) ≡ numeric
  weight_lead = omega arith

  weight_second : second_byte weight ≡ a
  weight_second = omega arith

  weight_digits : digits 256 3 (below_lead weight) ≡ a ∷ b ∷ c ∷ []
  weight_digits =
      three (below_lead weight / 256 ^ 2) (below_lead weight % 256 ^ 2 / 256 ^ 1) (below_lead weight % 256 ^ 2 % 256 ^ 1 / 256 ^ 0)
      (omega arith) (omega arith) (omega arith)
    where
      three : (x y z : ℕ) → x ≡ a → y ≡ b → z ≡ c → x ∷ y ∷ z ∷ [] ≡ a ∷ b ∷ c ∷ []
      three x y z e f g = cc

  weight_piece : (bs : List ℕ) (IsPiece : List ℕ → Type 0) → without_last_zeros (a ∷ b ∷ c ∷ []) ≡ bs → IsPiece bs
      → IsNumberWeight numeric IsPiece (number_weight numeric a b c)
  weight_piece bs IsPiece e p =
      record { fits = weight_fits; leads = weight_lead; piece = subst IsPiece (sym (ap without_last_zeros weight_digits ∙ e)) p }

  off : (x y z : Bool) → y ≡ false → (x && (y && z)) ≡ false
  off true y z e = rw e refl
  off false y z e = refl

  ends : (inside : Bool) → c % 2 ≡ 0 → goes_on numeric inside (number_weight numeric a b c) ≡ false
  ends inside e =
      off (lead weight == numeric) (weight % 2 == 1) (inside || nat_le 132 (second_byte weight)) (ne_eqb (weight % 2) 1 (omega arith))

  on : (x y z : Bool) → x ≡ true → y ≡ true → z ≡ true → (x && (y && z)) ≡ true
  on x y z e f g = rw (e, f, g) refl

  last_off : (x y z : Bool) → z ≡ false → (x && (y && z)) ≡ false
  last_off true true z e = e
  last_off true false z e = refl
  last_off false y z e = refl

  -- a whole number of three bytes
  ends_small : a < 132 → goes_on numeric false (number_weight numeric a b c) ≡ false
  ends_small l =
      last_off (lead weight == numeric) (weight % 2 == 1) (false || nat_le 132 (second_byte weight))
      (let e = weight_second in grind (arith, nat_tests))

  continues : c % 2 ≡ 1 → goes_on numeric true (number_weight numeric a b c) ≡ true
  continues e =
      on (lead weight == numeric) (weight % 2 == 1) (true || nat_le 132 (second_byte weight)) (eq-eqb (lead weight) numeric weight_lead)
      (eq-eqb (weight % 2) 1 (omega arith)) refl

  begins : c % 2 ≡ 1 → 132 ≤ a → goes_on numeric false (number_weight numeric a b c) ≡ true
  begins e l =
      on (lead weight == numeric) (weight % 2 == 1) (false || nat_le 132 (second_byte weight)) (eq-eqb (lead weight) numeric weight_lead)
      (eq-eqb (weight % 2) 1 (omega arith))
      (let f = weight_second in grind (arith, nat_tests))

-- the bytes that stand in a weight
one_byte : (a : ℕ) → 0 < a → without_last_zeros (a ∷ 0 ∷ 0 ∷ []) ≡ a ∷ []
one_byte a l = nonzero_first a [] l

two_bytes : (a b : ℕ) → 0 < b → without_last_zeros (a ∷ b ∷ 0 ∷ []) ≡ a ∷ b ∷ []
two_bytes a b l = ap (before_nonzero a) (nonzero_first b [] l)

three_bytes : (a b c : ℕ) → 0 < c → without_last_zeros (a ∷ b ∷ c ∷ []) ≡ a ∷ b ∷ c ∷ []
three_bytes a b c l = ap (λ z. before_nonzero a (before_nonzero b z)) (nonzero_first c [] l)

module _ (numeric : ℕ) (n : numeric < 256) (IsReachable : ℕ → Type 0) (rest : List ℕ) (after : IsPrimaryList numeric IsReachable false rest) where
  -- what stands after a weight that ends a number
  ended : (inside : Bool) (w : ℕ) → goes_on numeric inside w ≡ false → IsPrimaryList numeric IsReachable (goes_on numeric inside w) rest
  ended inside w e = subst (λ i. IsPrimaryList numeric IsReachable i rest) (sym e) after

  going : (inside : Bool) (w : ℕ) (ws : List ℕ) → goes_on numeric inside w ≡ true → IsPrimaryList numeric IsReachable true ws
      → IsPrimaryList numeric IsReachable (goes_on numeric inside w) ws
  going inside w ws e p = subst (λ i. IsPrimaryList numeric IsReachable i ws) (sym e) p

  inner_stands : (bs : List ℕ) → OddThenEven bs → IsPrimaryList numeric IsReachable true (in_threes numeric bs ++ rest)
  inner_stands [] o = absurd o
  inner_stands (a ∷ []) o = (
    weight_piece numeric a 0 0 n o.0.1 (lit< tt) (lit< tt) (a ∷ []) IsFurtherPiece (one_byte a o.0.0) o.1,
    ended true (number_weight numeric a 0 0) (ends numeric a 0 0 n o.0.1 (lit< tt) (lit< tt) true refl),
  )
  inner_stands (a ∷ (b ∷ [])) o = (
    weight_piece numeric a b 0 n o.0.1 o.2.0.1 (lit< tt) (a ∷ b ∷ []) IsFurtherPiece (two_bytes a b o.2.0.0) (o.1, o.2.1),
    ended true (number_weight numeric a b 0) (ends numeric a b 0 n o.0.1 o.2.0.1 (lit< tt) true refl),
  )
  inner_stands (a ∷ (b ∷ (c ∷ []))) o = (
    weight_piece numeric a b c n o.0.1 o.2.0.1 o.2.2.0.1 (a ∷ b ∷ c ∷ []) IsFurtherPiece (three_bytes a b c o.2.2.0.0) (o.1, o.2.1),
    ended true (number_weight numeric a b c) (ends numeric a b c n o.0.1 o.2.0.1 o.2.2.0.1 true o.2.2.1),
  )
  inner_stands (a ∷ (b ∷ (c ∷ (d ∷ bs)))) o = (
    weight_piece numeric a b c n o.0.1 o.2.0.1 o.2.2.0.1 (a ∷ b ∷ c ∷ []) IsFurtherPiece (three_bytes a b c o.2.2.0.0) (o.1, o.2.1),
    going true (number_weight numeric a b c) (in_threes numeric (d ∷ bs) ++ rest)
        (continues numeric a b c n o.0.1 o.2.0.1 o.2.2.0.1 o.2.2.1) (inner_stands (d ∷ bs) o.2.2.2),
  )

  great_stands : (a : ℕ) (bs : List ℕ) → 132 ≤ a → a < 256 → OddThenEven bs
      → IsPrimaryList numeric IsReachable false (in_threes numeric (a ∷ bs) ++ rest)
  great_stands a [] l f o = absurd o
  great_stands a (b ∷ []) l f o = (
    inr (weight_piece numeric a b 0 n f o.0.1 (lit< tt) (a ∷ b ∷ []) IsFirstPiece (two_bytes a b o.0.0) (inr (l, o.1))),
    ended false (number_weight numeric a b 0) (ends numeric a b 0 n f o.0.1 (lit< tt) false refl),
  )
  great_stands a (b ∷ (c ∷ [])) l f o = (
    inr (weight_piece numeric a b c n f o.0.1 o.2.0.1 (a ∷ b ∷ c ∷ []) IsFirstPiece (three_bytes a b c o.2.0.0) (inr (l, o.1))),
    ended false (number_weight numeric a b c) (ends numeric a b c n f o.0.1 o.2.0.1 false o.2.1),
  )
  great_stands a (b ∷ (c ∷ (d ∷ bs))) l f o = (
    inr (weight_piece numeric a b c n f o.0.1 o.2.0.1 (a ∷ b ∷ c ∷ []) IsFirstPiece (three_bytes a b c o.2.0.0) (inr (l, o.1))),
    going false (number_weight numeric a b c) (in_threes numeric (d ∷ bs) ++ rest) (begins numeric a b c n f o.0.1 o.2.0.1 o.2.1 l)
        (inner_stands (d ∷ bs) o.2.2),
  )

  form_stands : (bs : List ℕ) → Form bs → IsPrimaryList numeric IsReachable false (in_threes numeric bs ++ rest)
  form_stands bs (smallest a e l) = subst (λ z. IsPrimaryList numeric IsReachable false (in_threes numeric z ++ rest)) (sym e) (
    inr (weight_piece numeric a 0 0 n (omega (arith, l.1)) (lit< tt) (lit< tt) (a ∷ []) IsFirstPiece (one_byte a (omega (arith, l.0))) l.1),
    ended false (number_weight numeric a 0 0) (ends numeric a 0 0 n (omega (arith, l.1)) (lit< tt) (lit< tt) false refl),
  )
  form_stands bs (small a b e l m) = subst (λ z. IsPrimaryList numeric IsReachable false (in_threes numeric z ++ rest)) (sym e) (
    inr (weight_piece numeric a b 0 n (omega (arith, l.1)) (omega (arith, m.1)) (lit< tt) (a ∷ b ∷ []) IsFirstPiece
        (two_bytes a b (omega (arith, m.0))) (inl l)),
    ended false (number_weight numeric a b 0) (ends numeric a b 0 n (omega (arith, l.1)) (omega (arith, m.1)) (lit< tt) false refl),
  )
  form_stands bs (middling a b c e l m k) = subst (λ z. IsPrimaryList numeric IsReachable false (in_threes numeric z ++ rest)) (sym e) (
    inr (weight_piece numeric a b c n (omega (arith, l.1)) (omega (arith, m.1)) (omega (arith, k.1)) (a ∷ b ∷ c ∷ []) IsFirstPiece
        (three_bytes a b c (omega (arith, k.0))) (inl l)),
    ended false (number_weight numeric a b c) (ends_small numeric a b c n (omega (arith, l.1)) (omega (arith, m.1)) (omega (arith, k.1))
        (omega (arith, l.1))),
  )
  form_stands bs (great a cs e l o) = subst (λ z. IsPrimaryList numeric IsReachable false (in_threes numeric z ++ rest)) (sym e)
      (great_stands a cs l.0 (omega (arith, l.1)) o)

  -- a whole number before a list that may stand
  pub number_stands : (v : ℕ) → v < 100 ^ 127 → IsPrimaryList numeric IsReachable false (number_weights numeric v ++ rest)
  number_stands v l = form_stands (number_bytes v) (number_form v l)
