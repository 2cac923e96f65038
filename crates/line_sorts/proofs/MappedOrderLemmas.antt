-- Lists that are sorted by one order, and what they are mapped to, sorted by another.
use Rattle.std.proofs.Common.{◌≡◌, zero, suc, ◌+◌, ◌<◌, ◌⊎◌, inl, inr, Bool, true, false, not, ◌&&◌, cond, List, [], ◌∷◌, filter, get_or, length, map, refl, sym, ap, ◌∙◌, arith}
use Rattle.std.proofs.lemmas.List.{get_or-map, length-map}
use Rattle.std.proofs.lemmas.List.Sorted.{All-permutation}
use Rattle.std.specs.Cmp.{IsTotalOrder}
use Rattle.std.specs.List.{All, AllByRecursion}
use Rattle.std.specs.List.Sorted.{IsPermutation, IsSorted, IsStable, ties}
use Rattle.std.specs.Ordering.{is_lt, ordering_reverse}
use Rattle.std.specs.declared.cmp.Ordering.{Ordering}
use Rattle.std.specs.declared.cmp.Ordering.TheVariants.{Less, Equal, Greater}

pub all_at : {X : Type 0} (P : X → Type 0) (xs : List X) → AllByRecursion P xs → All P xs
all_at P [] h k d low = absurd (omega (arith, low))
all_at P (x ∷ xs) h zero d low = h.0
all_at P (x ∷ xs) h (suc k) d low = all_at P xs h.1 k d (omega (arith, low))

pub all_in : {X : Type 0} (P : X → Type 0) (xs : List X) → All P xs → AllByRecursion P xs
all_in P [] h = tt
all_in P (x ∷ xs) h = (h 0 x (omega arith), all_in P xs (λ k d low. h (suc k) d (omega (arith, low))))

-- what holds of each in one order holds of each in any
pub all_still : {X : Type 0} (P : X → Type 0) (xs ys : List X) → IsPermutation xs ys → AllByRecursion P xs → AllByRecursion P ys
all_still P xs ys moved are = all_in P ys (All-permutation P xs ys moved (all_at P xs are))

-- ---- filters

filter_at : {X : Type 0} (b c : Bool) (x : X) (xs ys : List X) → b ≡ c → xs ≡ ys → cond b (x ∷ xs) xs ≡ cond c (x ∷ ys) ys
filter_at true true x xs ys h k = ap (λ zs. x ∷ zs) k
filter_at false false x xs ys h k = k
filter_at true false x xs ys h k = absurd (cc)
filter_at false true x xs ys h k = absurd (cc)

filter_alike : {X : Type 0} (p q : X → Bool) (xs : List X) → AllByRecursion (λ x. p x ≡ q x) xs → filter p xs ≡ filter q xs
filter_alike p q [] h = refl
filter_alike p q (x ∷ xs) h = filter_at (p x) (q x) x (filter p xs) (filter q xs) h.0 (filter_alike p q xs h.1)

filter_none : {X : Type 0} (p : X → Bool) (xs : List X) → AllByRecursion (λ x. p x ≡ false) xs → filter p xs ≡ []
filter_none p [] h = refl
filter_none p (x ∷ xs) h = ap (λ b. cond b (x ∷ filter p xs) (filter p xs)) h.0 ∙ filter_none p xs h.1

mapped_at : {X Y : Type 0} (f : X → Y) (b : Bool) (x : X) (xs : List X) (ys : List Y) → ys ≡ map f xs
    → cond b (f x ∷ ys) ys ≡ map f (cond b (x ∷ xs) xs)
mapped_at f true x xs ys h = ap (λ zs. f x ∷ zs) h
mapped_at f false x xs ys h = h

filter_mapped : {X Y : Type 0} (f : X → Y) (p : Y → Bool) (xs : List X) → filter p (map f xs) ≡ map f (filter (λ x. p (f x)) xs)
filter_mapped f p [] = refl
filter_mapped f p (x ∷ xs) = mapped_at f (p (f x)) x (filter (λ y. p (f y)) xs) (filter p (map f xs)) (filter_mapped f p xs)

-- ---- ties

equal_if : (o : Ordering) → (not (is_lt o) && not (is_lt (ordering_reverse o))) ≡ true → o ≡ Equal
equal_if Less h = absurd (cc)
equal_if Equal h = refl
equal_if Greater h = absurd (cc)

abbrev tie : {Y : Type 0} → (Y → Y → Ordering) → Y → Y → Bool
tie order = ties (λ x y. is_lt (order x y))

module _ {Y : Type 0} (order : Y → Y → Ordering) (total : IsTotalOrder order) where
  pub tied_are_equal : (z w : Y) → tie order z w ≡ true → order z w ≡ Equal
  tied_are_equal z w h =
      equal_if (order z w) (sym (ap (λ o. not (is_lt (order z w)) && not (is_lt o)) (total.antisymm w z)) ∙ h)

  -- what ties with one of two that tie ties with the other
  tied_alike : (z w y : Y) → tie order z w ≡ true → tie order z y ≡ tie order w y
  tied_alike z w y h =
      let first = total.congr z w y (tied_are_equal z w h) in
      let second = total.antisymm y z ∙ (ap ordering_reverse first ∙ sym (total.antisymm y w)) in
      ap (λ o. not (is_lt o) && not (is_lt (order y z))) first ∙ ap (λ o. not (is_lt (order w y)) && not (is_lt o)) second

-- ---- maps

module _ {X Y : Type 0} (f : X → Y) (from : X → X → Ordering) (to : Y → Y → Ordering) (Is : X → Type 0)
    (same : (x y : X) → Is x → Is y → from x y ≡ to (f x) (f y)) where
  pub ascends_mapped : (xs : List X) → AllByRecursion Is xs → IsSorted from xs → IsSorted to (map f xs)
  ascends_mapped [] are sorted k d low high = absurd (omega (arith, high))
  ascends_mapped (x ∷ xs) are sorted k d low high =
      let next : k + 1 < length (x ∷ xs) = omega (arith, high, length-map (x ∷ xs) f) in
      let here : k < length (x ∷ xs) = omega arith in
      let later = get_or (x ∷ xs) (k + 1) x in
      let before = get_or (x ∷ xs) k x in
      let alike = same later before (all_at Is (x ∷ xs) are (k + 1) x next) (all_at Is (x ∷ xs) are k x here) in
      ap (λ l. is_lt (to l (get_or (map f (x ∷ xs)) k d))) (get_or-map f (x ∷ xs) (k + 1) x d next)
      ∙ (ap (λ l. is_lt (to (f later) l)) (get_or-map f (x ∷ xs) k x d here)
      ∙ (ap is_lt (sym alike) ∙ sorted k x low next))

  find : (p : Y → Bool) (xs : List X) → AllByRecursion Is xs
      → ((x : X) × Is x × (p (f x) ≡ true)) ⊎ AllByRecursion (λ x. p (f x) ≡ false) xs
  find p [] are = inr tt
  find p (x ∷ xs) are = at (p (f x)) refl (find p xs are.1) where
    at : (b : Bool) → p (f x) ≡ b → ((y : X) × Is y × (p (f y) ≡ true)) ⊎ AllByRecursion (λ y. p (f y) ≡ false) xs
        → ((y : X) × Is y × (p (f y) ≡ true)) ⊎ AllByRecursion (λ y. p (f y) ≡ false) (x ∷ xs)
    at true e rest = inl (x, are.0, e)
    at false e (inl it) = inl it
    at false e (inr none) = inr (e, none)

  tie_same : (x y : X) → Is x → Is y → tie from x y ≡ tie to (f x) (f y)
  tie_same x y h k =
      ap (λ o. not (is_lt o) && not (is_lt (from y x))) (same x y h k)
      ∙ ap (λ o. not (is_lt (to (f x) (f y))) && not (is_lt o)) (same y x k h)

  all_alike : IsTotalOrder to → (z : Y) (x : X) → Is x → tie to z (f x) ≡ true → (xs : List X) → AllByRecursion Is xs
      → AllByRecursion (λ y. tie from x y ≡ tie to z (f y)) xs
  all_alike total z x h tied [] are = tt
  all_alike total z x h tied (y ∷ ys) are =
      (tie_same x y h are.0 ∙ sym (tied_alike to total z (f x) (f y) tied), all_alike total z x h tied ys are.1)

  kept : IsTotalOrder to → (z : Y) (x : X) → Is x → tie to z (f x) ≡ true → (xs : List X) → AllByRecursion Is xs
      → filter (tie to z) (map f xs) ≡ map f (filter (tie from x) xs)
  kept total z x h tied xs are =
      filter_mapped f (tie to z) xs
      ∙ ap (map f) (sym (filter_alike (tie from x) (λ y. tie to z (f y)) xs (all_alike total z x h tied xs are)))

  left_out : (z : Y) (xs : List X) → AllByRecursion (λ x. tie to z (f x) ≡ false) xs → filter (tie to z) (map f xs) ≡ []
  left_out z xs none = filter_mapped f (tie to z) xs ∙ ap (map f) (filter_none (λ x. tie to z (f x)) xs none)

  pub stable_mapped : IsTotalOrder to → (xs ys : List X) → AllByRecursion Is xs → AllByRecursion Is ys → IsPermutation xs ys
      → IsStable from xs ys → IsStable to (map f xs) (map f ys)
  stable_mapped total xs ys are still moved stable z = by (find (tie to z) xs are) where
    by : ((x : X) × Is x × (tie to z (f x) ≡ true)) ⊎ AllByRecursion (λ x. tie to z (f x) ≡ false) xs
        → filter (tie to z) (map f ys) ≡ filter (tie to z) (map f xs)
    by (inl it) =
        kept total z it.0 it.1 it.2 ys still ∙ (ap (map f) (stable it.0) ∙ sym (kept total z it.0 it.1 it.2 xs are))
    by (inr none) =
        left_out z ys (all_still (λ x. tie to z (f x) ≡ false) xs ys moved none) ∙ sym (left_out z xs none)
