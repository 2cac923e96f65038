-- Lists that are sorted, and lists in the order of numbers.
use Rattle.std.proofs.Common.{◌≡◌, ◌≢◌, ◌⊎◌, inl, inr, ℕ, suc, ◌<◌, ◌≤◌, ◌==◌, Bool, true, false, true≢false, cond, List, [], ◌∷◌, length, map, filter, get_or, swap, set, refl, sym, ap, ◌∙◌, arith, add-one, IsPermutation}
use Rattle.std.proofs.lemmas.Bool.Decides.{nat_tests}
use Rattle.std.proofs.lemmas.List.{get_or-map, map-set}
use Rattle.std.proofs.Math.ListN.{length-map}
use Rattle.std.proofs.lemmas.List.Elements.{All-from_recursion, recursion_from_All}
use Rattle.std.proofs.lemmas.List.Sorted.{All-permutation, IsPermutation-keeps, IsPermutation-refl, IsPermutation-swap, IsPermutation-trans, length_permutation}
use Rattle.std.specs.Cmp.{IsStrictWeakOrder}
use Rattle.std.specs.List.{AllByRecursion}
use Rattle.std.specs.List.Sorted.{IsSortedBy}
use Rattle.icu_table_data.proofs.ListLemmas.{weaker}
use Rattle.sqlite_rules.proofs.ListLemmas.{all_from, all_has}
use Rattle.sqlite_rules.specs.Lists.{Has}
use Rattle.sqlite_trees.proofs.ListLemmas.{IsPermutation-filter}
use Rattle.sqlite_trees.specs.Tree.{IsAscending}

-- what has been moved was there
pub has_moved : {X : Type 0} (xs ys : List X) → IsPermutation xs ys → (z : X) → Has ys z → Has xs z
has_moved xs ys moved z there =
    all_has (Has xs) ys z (recursion_from_All (Has xs) ys (All-permutation (Has xs) xs ys moved (All-from_recursion (Has xs) xs (all_from (Has xs) xs (λ w h. h))))) there

-- ---- a permutation of what a function gives is what it gives of a permutation

map-swap : {X Y : Type 0} (f : X → Y) (xs : List X) (i j : ℕ) → i < length xs → j < length xs → swap (map f xs) i j ≡ map f (swap xs i j)
map-swap f [] i j low high = refl
map-swap f (d ∷ xs) i j low high =
    let all = d ∷ xs in
    let at_i = get_or-map f all i d (f d) low in
    let at_j = get_or-map f all j d (f d) high in
    ap (λ y. set (set (map f all) i y) j (get_or (map f all) i (f d))) at_j
    ∙ (ap (λ y. set (set (map f all) i (f (get_or all j d))) j y) at_i
    ∙ sym (map-set f (set all i (get_or all j d)) j (get_or all i d)
    ∙ ap (λ l. set l j (f (get_or all i d))) (map-set f all i (get_or all j d))))

pub unmapped : {X Y : Type 0} (f : X → Y) (xs : List X) (ys : List Y) → IsPermutation (map f xs) ys
    → (zs : List X) × IsPermutation xs zs × (ys ≡ map f zs)
unmapped {X} {Y} f xs ys moved =
    IsPermutation-keeps (map f xs) (λ l. (zs : List X) × IsPermutation xs zs × (l ≡ map f zs))
    (xs, IsPermutation-refl xs, refl)
    (λ l i j low high h.
    let long : length l ≡ length h.0 = ap length h.2 ∙ length-map h.0 f in
    let i_in : i < length h.0 = omega arith in
    let j_in : j < length h.0 = omega arith in (
      swap h.0 i j,
      IsPermutation-trans xs h.0 (swap h.0 i j) h.1 (IsPermutation-swap h.0 (swap h.0 i j) i j i_in j_in refl),
      ap (λ m. swap m i j) h.2 ∙ map-swap f h.0 i j i_in j_in,
    ))
    ys moved

-- ---- what doesn't pass

none_pass : {X : Type 0} (p : X → Bool) (xs : List X) → length (filter p xs) ≡ 0 → AllByRecursion (λ x. p x ≡ false) xs
none_pass p [] h = tt
none_pass {X} p (x ∷ xs) h = at (p x) refl (none_pass p xs) h
  where
    at : (b : Bool) → p x ≡ b → (length (filter p xs) ≡ 0 → AllByRecursion (λ y. p y ≡ false) xs)
        → length (cond b (x ∷ filter p xs) (filter p xs)) ≡ 0 → AllByRecursion (λ y. p y ≡ false) (x ∷ xs)
    at true e more h = absurd (omega (arith, h))
    at false e more h = (e, more h)

pub pass_none : {X : Type 0} (p : X → Bool) (xs : List X) → AllByRecursion (λ x. p x ≡ false) xs → filter p xs ≡ []
pass_none p [] h = refl
pass_none p (x ∷ xs) h = let e = h.0 in let more = pass_none p xs h.1 in cc

-- a fact of all that pass
pub all_filter : {X : Type 0} (P : X → Type 0) (p : X → Bool) (xs : List X) → AllByRecursion P xs → AllByRecursion P (filter p xs)
all_filter P p [] h = tt
all_filter P p (x ∷ xs) h = at (p x) (all_filter P p xs h.1)
  where
    at : (b : Bool) → AllByRecursion P (filter p xs) → AllByRecursion P (cond b (x ∷ filter p xs) (filter p xs))
    at true more = (h.0, more)
    at false more = more

pub ascending_filter : {X : Type 0} (R : X → X → Type 0) (p : X → Bool) (xs : List X) → IsAscending R xs → IsAscending R (filter p xs)
ascending_filter R p [] h = tt
ascending_filter R p (x ∷ xs) h = at (p x) (ascending_filter R p xs h.1)
  where
    at : (b : Bool) → IsAscending R (filter p xs) → IsAscending R (cond b (x ∷ filter p xs) (filter p xs))
    at true more = (all_filter (R x) p xs h.0, more)
    at false more = more

equal_test : (a b : ℕ) → a ≡ b → (a == b) ≡ true
equal_test a b e = grind (arith, nat_tests)

unequal_test : (a b : ℕ) → a ≢ b → (a == b) ≡ false
unequal_test a b e = grind (arith, nat_tests)

-- ---- lists in the order of their numbers

module _ {X : Type 0} (number : X → ℕ) where
  abbrev pub Rises : List X → Type 0
  Rises = IsAscending (λ a b. number a < number b)

  -- two such lists of the same elements are one
  pub one_list : (xs ys : List X) → Rises xs → Rises ys → ((z : X) → Has xs z → Has ys z) → ((z : X) → Has ys z → Has xs z) → xs ≡ ys
  one_list [] [] r s to from = refl
  one_list [] (y ∷ ys) r s to from = absurd (from y (inl refl))
  one_list (x ∷ xs) [] r s to from = absurd (to x (inl refl))
  one_list (x ∷ xs) (y ∷ ys) r s to from =
      let same = heads (to x (inl refl)) (from y (inl refl)) in
      let more = one_list xs ys r.1 s.1 (λ z h. later_in z h (to z (inr h)) same) (λ z h. later_from z h (from z (inr h)) same) in
      cc
    where
      heads : (x ≡ y) ⊎ Has ys x → (y ≡ x) ⊎ Has xs y → x ≡ y
      heads (inl e) h = e
      heads (inr a) (inl e) = sym e
      heads (inr a) (inr b) = let up = all_has (λ w. number y < number w) ys x s.0 a in let down = all_has (λ w. number x < number w) xs y r.0 b in absurd (omega arith)

      later_in : (z : X) → Has xs z → (z ≡ y) ⊎ Has ys z → x ≡ y → Has ys z
      later_in z h (inr there) same = there
      later_in z h (inl e) same = let up = all_has (λ w. number x < number w) xs z r.0 h in let one : number z ≡ number x = ap number (e ∙ sym same) in absurd (omega arith)

      later_from : (z : X) → Has ys z → (z ≡ x) ⊎ Has xs z → x ≡ y → Has xs z
      later_from z h (inr there) same = there
      later_from z h (inl e) same = let up = all_has (λ w. number y < number w) ys z s.0 h in let one : number z ≡ number y = ap number (e ∙ same) in absurd (omega arith)

  -- no number comes twice
  abbrev pub AreApart : List X → Type 0
  AreApart = IsAscending (λ a b. number b ≢ number a)

  abbrev has_number : ℕ → X → Bool
  has_number n x = number x == n

  once_at_most : (n : ℕ) (xs : List X) → Rises xs → length (filter (has_number n) xs) ≤ 1
  once_at_most n [] r = omega arith
  once_at_most n (x ∷ xs) r = at (number x == n) refl (once_at_most n xs r.1)
    where
      at : (b : Bool) → (number x == n) ≡ b → length (filter (has_number n) xs) ≤ 1 → length (cond b (x ∷ filter (has_number n) xs) (filter (has_number n) xs)) ≤ 1
      at true e more =
          let same : number x ≡ n = grind (arith, nat_tests) in
          let none = pass_none (has_number n) xs (weaker (λ y. number x < number y) (λ y. has_number n y ≡ false)
          (λ y up. unequal_test (number y) n (λ e. absurd (omega arith))) xs r.0) in
          omega (arith, ap length none)
      at false e more = more

  apart_by_counts : (xs : List X) → ((n : ℕ) → length (filter (has_number n) xs) ≤ 1) → AreApart xs
  apart_by_counts [] once = tt
  apart_by_counts (x ∷ xs) once = (
    weaker (λ y. has_number (number x) y ≡ false) (λ y. number y ≢ number x) (λ y no same. absurd (true≢false (sym (equal_test (number y) (number x) same) ∙ no))) xs
        (none_pass (has_number (number x)) xs (here (number x == number x) (equal_test (number x) (number x) refl) (once (number x)))),
    apart_by_counts xs (λ n. less (has_number n x) n (once n)),
  )
    where
      here : (b : Bool) → b ≡ true → length (cond b (x ∷ filter (has_number (number x)) xs) (filter (has_number (number x)) xs)) ≤ 1 → length (filter (has_number (number x)) xs) ≡ 0
      here true e h = omega (arith, h)
      here false e h = absurd (true≢false (sym e))

      less : (b : Bool) (n : ℕ) → length (cond b (x ∷ filter (has_number n) xs) (filter (has_number n) xs)) ≤ 1 → length (filter (has_number n) xs) ≤ 1
      less true n h = omega (arith, h)
      less false n h = h

  pub apart_moved : (xs ys : List X) → Rises xs → IsPermutation xs ys → AreApart ys
  apart_moved xs ys r moved =
      apart_by_counts ys (λ n. let same = length_permutation _ _ (IsPermutation-filter (has_number n) xs ys moved) in let few = once_at_most n xs r in omega arith)

-- ---- sorted lists

module _ {X : Type 0} (lt : X → X → Bool) (weak : IsStrictWeakOrder lt) where
  -- none is less than one before it
  abbrev pub NoneFalls : List X → Type 0
  NoneFalls = IsAscending (λ a b. lt b a ≡ false)

  sorted_tail : (x : X) (xs : List X) → IsSortedBy lt (x ∷ xs) → IsSortedBy lt xs
  sorted_tail x xs h k d low high =
      rw (add-one k) (rw add-one at (h (suc k) d (omega arith) (omega (arith, high, add-one k, add-one (suc k)))))

  pub none_falls : (xs : List X) → IsSortedBy lt xs → NoneFalls xs
  none_falls [] h = tt
  none_falls (x ∷ []) h = (tt, tt)
  none_falls (x ∷ y ∷ zs) h =
      let more = none_falls (y ∷ zs) (sorted_tail x (y ∷ zs) h) in
      let first : lt y x ≡ false = h 0 x (omega arith) (omega arith) in
      ((first, weaker (λ z. lt z y ≡ false) (λ z. lt z x ≡ false) (λ z e. weak.chain z y x e first) zs more.0), more)
