-- One turn of the marks after a match.
use Rattle.std.proofs.Common.{◌≡◌, ℕ, zero, suc, ◌+◌, ◌<◌, ◌≤◌, true, false, ◌||◌, List, [], ◌∷◌, ◌++◌, length, drop, take, Some, None, refl, sym, ap, ◌∙◌, arith, inl, inr}
use Rattle.std.specs.Prelude.{slice_get, nat_le, max}
use Rattle.std.specs.List.{list_any}
use Rattle.std.proofs.lemmas.Bool.{cases_lt, le-leb, lt-leb}
use Rattle.std.proofs.lemmas.List.{drop_more, take_more, length-take-le}
use Rattle.std.proofs.lemmas.Option.{slice_get_within, get_or_from_slice_get}
use Rattle.std.proofs.Math.ListN.{drop_of_length-le}
use Rattle.std.proofs.Math.Seq.{take-append_seam, drop-append_seam}
use Rattle.ucd_normal.specs.CanonicalCombiningClass.{canonical_combining_class as class_of}
use Rattle.unicode_normalization.specs.Order.{is_starter}
use Rattle.icu_table_data.specs.Data.{Mapping, mapping_entry}
use Rattle.icu_element_matches.specs.Matches.{Match, is_blocked, with_marks}
use Rattle.icu_element_matches.specs.inner.Joining.{greatest_class}

-- ---- a mark of a list

pub here : (text : List ℕ) (i m : ℕ) → slice_get text i ≡ Some m → drop i text ≡ m ∷ drop (i + 1) text
here text i m is = drop_more text i m (slice_get_within text i m is) ∙ ap (λ x. x ∷ drop (i + 1) text) (get_or_from_slice_get text i m m is)

pub one_more : (text : List ℕ) (i m : ℕ) → slice_get text i ≡ Some m → take (i + 1) text ≡ take i text ++ m ∷ []
one_more text i m is = take_more text i m (slice_get_within text i m is) ∙ ap (λ x. take i text ++ x ∷ []) (get_or_from_slice_get text i m m is)

pub nothing_there : (text : List ℕ) (i : ℕ) → slice_get text i ≡ None → length text ≤ i
nothing_there [] i h = omega arith
nothing_there (x ∷ xs) zero h = cc
nothing_there (x ∷ xs) (suc i) h = omega (arith, nothing_there xs i h)

-- ---- what blocks a mark

either_reaches : (a b c : ℕ) → (nat_le a b || nat_le a c) ≡ nat_le a (max b c)
either_reaches a b c = elim (cases_lt b a) [
  | inl h ↦ elim (cases_lt c a) [
    | inl k ↦ rw (lt-leb a b h, lt-leb a c k, lt-leb a (max b c) (omega arith)) refl
    | inr k ↦ rw (lt-leb a b h, le-leb a c k, le-leb a (max b c) (omega arith)) refl
  ]
  | inr h ↦ rw (le-leb a b h, le-leb a (max b c) (omega arith)) refl
]

pub blocked_by_greatest : (passed : List ℕ) (m : ℕ) → 0 < class_of m → is_blocked passed m ≡ nat_le (class_of m) (greatest_class passed)
unfolding is_blocked greatest_class
blocked_by_greatest [] m mark = sym (lt-leb (class_of m) 0 mark)
blocked_by_greatest (p ∷ ps) m mark =
    let rest : list_any (λ q. nat_le (class_of m) (class_of q)) ps ≡ nat_le (class_of m) (greatest_class ps) = blocked_by_greatest ps m mark in
    ap (λ b. nat_le (class_of m) (class_of p) || b) rest ∙ either_reaches (class_of m) (class_of p) (greatest_class ps)

pub greatest_more : (passed : List ℕ) (m : ℕ) → greatest_class (passed ++ m ∷ []) ≡ max (greatest_class passed) (class_of m)
unfolding greatest_class
greatest_more [] m = omega arith
greatest_more (p ∷ ps) m = omega (arith, greatest_more ps m)

-- ---- the turn

module _ (mappings : List Mapping) (entry : ℕ) (suffix passed text : List ℕ) (i m : ℕ) (is : slice_get text i ≡ Some m) where
  at_mark : with_marks mappings entry suffix passed (drop i text) ≡ with_marks mappings entry suffix passed (m ∷ drop (i + 1) text)
  at_mark = ap (with_marks mappings entry suffix passed) (here text i m is)

  pub at_starter : is_starter m ≡ true → with_marks mappings entry suffix passed (drop i text) ≡ record { entry = entry; suffix = suffix; rest = passed ++ drop i text }
  unfolding with_marks
  at_starter h =
      let ended : List ℕ → Match = λ l. record { entry = entry; suffix = suffix; rest = passed ++ l } in
      at_mark ∙ rw h (ap ended (sym (here text i m is)))

  pub at_blocked : is_starter m ≡ false → is_blocked passed m ≡ true → with_marks mappings entry suffix passed (drop i text) ≡ with_marks mappings entry suffix (passed ++ m ∷ []) (drop (i + 1) text)
  unfolding with_marks
  at_blocked h b = at_mark ∙ rw (h, b)

  pub at_joining : (joined : ℕ) → is_starter m ≡ false → is_blocked passed m ≡ false → mapping_entry mappings (suffix ++ m ∷ []) ≡ Some joined → with_marks mappings entry suffix passed (drop i text) ≡ with_marks mappings joined (suffix ++ m ∷ []) passed (drop (i + 1) text)
  unfolding with_marks
  at_joining joined h b r = at_mark ∙ rw (h, b, r)

  pub at_other : is_starter m ≡ false → is_blocked passed m ≡ false → mapping_entry mappings (suffix ++ m ∷ []) ≡ None → with_marks mappings entry suffix passed (drop i text) ≡ with_marks mappings entry suffix (passed ++ m ∷ []) (drop (i + 1) text)
  unfolding with_marks
  at_other h b r = at_mark ∙ rw (h, b, r)

pub at_end : (mappings : List Mapping) (entry : ℕ) (suffix passed text : List ℕ) (i : ℕ) → length text ≤ i → with_marks mappings entry suffix passed (drop i text) ≡ record { entry = entry; suffix = suffix; rest = passed }
unfolding with_marks
at_end mappings entry suffix passed text i past = ap (with_marks mappings entry suffix passed) (drop_of_length-le text past)

-- ---- a list without the member at an index

pub removed_after : (xs : List ℕ) (i : ℕ) (ys : List ℕ) → i < length xs → ys ≡ take i xs ++ drop (i + 1) xs → drop i ys ≡ drop (i + 1) xs
removed_after xs i ys k e =
    let n : length (take i xs) ≡ i = length-take-le i xs (omega arith) in
    ap (drop i) e ∙ (ap (λ j. drop j (take i xs ++ drop (i + 1) xs)) (sym n) ∙ drop-append_seam (take i xs) (drop (i + 1) xs))

pub removed_before : (xs : List ℕ) (i : ℕ) (ys : List ℕ) → i < length xs → ys ≡ take i xs ++ drop (i + 1) xs → take i ys ≡ take i xs
removed_before xs i ys k e =
    let n : length (take i xs) ≡ i = length-take-le i xs (omega arith) in
    ap (take i) e ∙ (ap (λ j. take j (take i xs ++ drop (i + 1) xs)) (sym n) ∙ take-append_seam (take i xs) (drop (i + 1) xs))
