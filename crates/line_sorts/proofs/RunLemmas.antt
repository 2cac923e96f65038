-- Lists that rise, joined, and places that begin alike.
use Rattle.std.proofs.Common.{◌≡◌, ◌≢◌, ℕ, zero, suc, ◌<◌, ◌≤◌, Bool, true, false, List, [], ◌∷◌, ◌++◌, drop, get_or, length, take, nat_eq, if◌then◌else◌, refl, ap, arith, add-one}
use Rattle.std.proofs.lemmas.Bool.Decides.{nat_tests}
use Rattle.icu_table_data.proofs.ListLemmas.{all_append, all_second, weaker}
use Rattle.line_sorts.proofs.KeyBufferLemmas.{of_eq, eq_of}
use Rattle.std.specs.Cmp.{IsStrictWeakOrder}
use Rattle.std.specs.List.{AllByRecursion}
use Rattle.std.specs.List.Sorted.{IsSortedBy}
use Rattle.std.specs.Result.{OnOk, is_ok}
use Rattle.std.specs.declared.result.Result.{Result}
use Rattle.std.specs.declared.result.Result.TheVariants.{Ok, Err}
use Rattle.line_sorts.specs.declared.line_places.LinePlace.{LinePlace}
use Rattle.line_sorts.specs.inner.SettledPlaces.{first_alike, first_run, front_of}

-- what a call appends that may fail
pub appended : {X T E : Type 0} (r : Result T E) (zs xs ys : List X) → zs ≡ (if is_ok r then xs else ys) → OnOk r (zs ≡ xs)
appended (Ok x) zs xs ys h = h
appended (Err e) zs xs ys h = tt

-- ---- lists that rise

-- none is less than one before it
abbrev pub Rises : {X : Type 0} → (X → X → Bool) → List X → Type 0
Rises lt [] = Unit {0}
Rises lt (x ∷ xs) = AllByRecursion (λ y. lt y x ≡ false) xs × Rises lt xs

module _ {X : Type 0} (lt : X → X → Bool) where
  -- none of the second list is less than one of the first
  abbrev pub Follow : List X → List X → Type 0
  Follow xs ys = AllByRecursion (λ x. AllByRecursion (λ y. lt y x ≡ false) ys) xs

  pub rises_append : (xs ys : List X) → Rises lt xs → Rises lt ys → Follow xs ys → Rises lt (xs ++ ys)
  rises_append [] ys h g f = g
  rises_append (x ∷ xs) ys h g f = (all_append (λ y. lt y x ≡ false) xs ys h.0 f.0, rises_append xs ys h.1 g f.1)

  pub rises_back : (xs ys : List X) → Rises lt (xs ++ ys) → Rises lt ys
  rises_back [] ys h = h
  rises_back (x ∷ xs) ys h = rises_back xs ys h.1

  pub rises_across : (xs ys : List X) → Rises lt (xs ++ ys) → Follow xs ys
  rises_across [] ys h = tt
  rises_across (x ∷ xs) ys h = (all_second (λ y. lt y x ≡ false) xs ys h.0, rises_across xs ys h.1)

  rises_step : (xs : List X) → Rises lt xs → (k : ℕ) (d : X) → suc k < length xs → lt (get_or xs (suc k) d) (get_or xs k d) ≡ false
  rises_step [] r k d h = absurd (omega (arith, h))
  rises_step (x ∷ []) r k d h = absurd (omega (arith, h))
  rises_step (x ∷ y ∷ xs) r zero d h = r.0.0
  rises_step (x ∷ y ∷ xs) r (suc k) d h = rises_step (y ∷ xs) r.1 k d (omega (arith, h))

  pub rises_sorted : (xs : List X) → Rises lt xs → IsSortedBy lt xs
  rises_sorted xs r k d low high = rw (add-one k) (rises_step xs r k d (omega (arith, high, add-one k)))

  sorted_tail : (x : X) (xs : List X) → IsSortedBy lt (x ∷ xs) → IsSortedBy lt xs
  sorted_tail x xs h k d low high =
      rw (add-one k) (rw add-one at (h (suc k) d (omega arith) (omega (arith, high, add-one k, add-one (suc k)))))

  pub sorted_rises : IsStrictWeakOrder lt → (xs : List X) → IsSortedBy lt xs → Rises lt xs
  sorted_rises weak [] h = tt
  sorted_rises weak (x ∷ []) h = (tt, tt)
  sorted_rises weak (x ∷ y ∷ zs) h =
      let more = sorted_rises weak (y ∷ zs) (sorted_tail x (y ∷ zs) h) in
      let first : lt y x ≡ false = h 0 x (omega arith) (omega arith) in
      ((first, weaker (λ z. lt z y ≡ false) (λ z. lt z x ≡ false) (λ z e. weak.chain z y x e first) zs more.0), more)

-- ---- places that begin alike

of_other : (a b : ℕ) → nat_eq a b ≡ false → a ≢ b
of_other a b h = grind (arith, nat_tests)

other_of : (a b : ℕ) → a ≢ b → nat_eq a b ≡ false
other_of a b h = grind (arith, nat_tests)

pub front_at : (ps : List LinePlace) (d : LinePlace) → 0 < length ps → front_of ps ≡ (get_or ps 0 d).front
front_at [] d h = absurd (omega (arith, h))
front_at (p ∷ ps) d h = refl

-- from an index on: one more, where the place there has the number, and else none
pub alike_goes : (f : ℕ) (ps : List LinePlace) (i : ℕ) (d : LinePlace) → i < length ps → (get_or ps i d).front ≡ f
    → first_alike f (drop i ps) ≡ suc (first_alike f (drop (suc i) ps))
alike_goes f [] i d h e = absurd (omega (arith, h))
alike_goes f (p ∷ ps) zero d h e = rw (e, of_eq f) refl
alike_goes f (p ∷ ps) (suc i) d h e = alike_goes f ps i d (omega (arith, h)) e

pub alike_ends : (f : ℕ) (ps : List LinePlace) (i : ℕ) (d : LinePlace) → i < length ps → (get_or ps i d).front ≢ f → first_alike f (drop i ps) ≡ 0
alike_ends f [] i d h e = absurd (omega (arith, h))
alike_ends f (p ∷ ps) zero d h e = rw (other_of p.front f e) refl
alike_ends f (p ∷ ps) (suc i) d h e = alike_ends f ps i d (omega (arith, h)) e

pub alike_done : (f : ℕ) (ps : List LinePlace) (i : ℕ) → length ps ≤ i → first_alike f (drop i ps) ≡ 0
alike_done f [] zero h = refl
alike_done f [] (suc i) h = refl
alike_done f (p ∷ ps) zero h = absurd (omega (arith, h))
alike_done f (p ∷ ps) (suc i) h = alike_done f ps i (omega (arith, h))

pub are_alike : (f : ℕ) (ps : List LinePlace) → AllByRecursion (λ p. p.front ≡ f) (take (first_alike f ps) ps)
are_alike f [] = tt
are_alike f (p ∷ ps) = at (nat_eq p.front f) refl (are_alike f ps) where
  at : (b : Bool) → nat_eq p.front f ≡ b → AllByRecursion (λ q. q.front ≡ f) (take (first_alike f ps) ps)
      → AllByRecursion (λ q. q.front ≡ f) (take (if b then suc (first_alike f ps) else 0) (p ∷ ps))
  at true e more = (eq_of p.front f e, more)
  at false e more = tt

-- none, or a first one with another number
abbrev pub StartsOtherwise : ℕ → List LinePlace → Type 0
StartsOtherwise f [] = Unit {0}
StartsOtherwise f (p ∷ ps) = p.front ≢ f

pub starts_otherwise : (f : ℕ) (ps : List LinePlace) → StartsOtherwise f (drop (first_alike f ps) ps)
starts_otherwise f [] = tt
starts_otherwise f (p ∷ ps) = at (nat_eq p.front f) refl (starts_otherwise f ps) where
  at : (b : Bool) → nat_eq p.front f ≡ b → StartsOtherwise f (drop (first_alike f ps) ps)
      → StartsOtherwise f (drop (if b then suc (first_alike f ps) else 0) (p ∷ ps))
  at true e more = more
  at false e more = of_other p.front f e

pub run_is_some : (ps : List LinePlace) → 0 < length ps → 0 < first_run ps
run_is_some [] h = absurd (omega (arith, h))
run_is_some (p ∷ ps) h = rw (of_eq p.front) (omega arith)

pub run_and_rest : {X : Type 0} (n : ℕ) (xs : List X) → take n xs ++ drop n xs ≡ xs
run_and_rest zero xs = refl
run_and_rest (suc n) [] = refl
run_and_rest (suc n) (x ∷ xs) = ap (λ ys. x ∷ ys) (run_and_rest n xs)

pub run_has_some : (n : ℕ) (ps : List LinePlace) → 0 < n → 0 < length ps → 0 < length (take n ps)
run_has_some zero ps h g = absurd (omega (arith, h))
run_has_some (suc n) [] h g = absurd (omega (arith, g))
run_has_some (suc n) (p ∷ ps) h g = omega arith
