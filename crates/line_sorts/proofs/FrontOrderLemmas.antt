-- The order of places by the numbers that their keys begin with, beside that by the keys.
use Rattle.std.proofs.Common.{◌≡◌, ◌≢◌, ℕ, ◌<◌, ◌≤◌, ◌⊎◌, inl, inr, Bool, true, false, cond, List, [], ◌∷◌, filter, refl, sym, ap, ◌∙◌, arith}
use Rattle.std.proofs.lemmas.Bool.{cases_lt}
use Rattle.std.proofs.lemmas.Cmp.{nat_cmp_total, on_total}
use Rattle.std.specs.Cmp.{IsTotalOrder}
use Rattle.std.specs.List.Sorted.{IsStable, ties}
use Rattle.std.specs.Ordering.{is_lt, nat_cmp, ordering_then}
use Rattle.std.specs.declared.cmp.Ordering.{Ordering}
use Rattle.std.specs.declared.cmp.Ordering.TheVariants.{Less, Equal, Greater}
use Rattle.icu_order_levels.proofs.Order.{less_number, more_number, same_number}
use Rattle.line_sorts.proofs.LineOrderLemmas.{directed_total}
use Rattle.line_sorts.proofs.LinePlaceLemmas.{place_total, same_order}
use Rattle.line_sorts.proofs.MappedOrderLemmas.{tied_are_equal}
use Rattle.line_sorts.specs.KeyBuffers.{LineView, place_pair}
use Rattle.line_sorts.specs.KeyedOrders.{directed, keyed_order, with_ties}
use Rattle.line_sorts.specs.declared.line_order.Direction.{Direction}
use Rattle.line_sorts.specs.declared.line_order.Direction.TheVariants.{Ascending, Descending}
use Rattle.line_sorts.specs.declared.line_order.LineOrder.{LineOrder}
use Rattle.line_sorts.specs.declared.line_order.Ties.{Ties}
use Rattle.line_sorts.specs.declared.line_order.Ties.TheVariants.{AsTheyCame, ByBytes}
use Rattle.line_sorts.specs.declared.line_places.LinePlace.{LinePlace}
use Rattle.line_sorts.specs.inner.PlaceOrders.{IsLinePlace, bytes_of_places, front_order, keys_of_places, place_order}

pub front_total : (d : Direction) → IsTotalOrder (front_order d)
front_total d = directed_total d (λ x y. nat_cmp x.front y.front) (on_total (λ (p : LinePlace). p.front) nat_cmp_total)

-- ---- numbers

-- not less, and not the same
more_by : (x y : ℕ) → (x < y) ⊎ (y ≤ x) → is_lt (nat_cmp x y) ≡ false → x ≢ y → nat_cmp x y ≡ Greater
more_by x y (inl less) h apart = let e : is_lt (nat_cmp x y) ≡ true = ap is_lt (less_number x y less) in cc
more_by x y (inr more) h apart = more_number x y (at (cases_lt y x)) where
  at : (y < x) ⊎ (x ≤ y) → y < x
  at (inl it) = it
  at (inr low) = absurd (apart (omega (arith, more, low)))

more : (x y : ℕ) → is_lt (nat_cmp x y) ≡ false → x ≢ y → nat_cmp x y ≡ Greater
more x y = more_by x y (cases_lt x y)

not_below : (x y : ℕ) → (x < y) ⊎ (y ≤ x) → is_lt (nat_cmp x y) ≡ false → y ≤ x
not_below x y (inl less) h = let e : is_lt (nat_cmp x y) ≡ true = ap is_lt (less_number x y less) in cc
not_below x y (inr more) h = more

same_by : (x y : ℕ) → (x < y) ⊎ (y ≤ x) → (y < x) ⊎ (x ≤ y) → nat_cmp x y ≡ Equal → x ≡ y
same_by x y (inl less) other h = let e = less_number x y less in cc
same_by x y (inr low) (inl less) h = let e = more_number x y less in cc
same_by x y (inr low) (inr high) h = omega (arith, low, high)

are_same : (x y : ℕ) → nat_cmp x y ≡ Equal → x ≡ y
are_same x y = same_by x y (cases_lt x y) (cases_lt y x)

first_equal : (o p : Ordering) → ordering_then o p ≡ Equal → o ≡ Equal
first_equal Less p h = absurd (cc)
first_equal Equal p h = refl
first_equal Greater p h = absurd (cc)

-- ---- runs stand apart

-- behind a number that differs, no later one is the same
pub apart_behind : (d : Direction) (f a y : LinePlace) → a.front ≢ f.front → is_lt (front_order d a f) ≡ false → is_lt (front_order d y a) ≡ false
    → y.front ≢ f.front
apart_behind Ascending f a y apart h g e =
    let low = not_below a.front f.front (cases_lt a.front f.front) h in
    let high = not_below y.front a.front (cases_lt y.front a.front) g in
    apart (omega (arith, low, high, e))
apart_behind Descending f a y apart h g e =
    let low = not_below f.front a.front (cases_lt f.front a.front) h in
    let high = not_below a.front y.front (cases_lt a.front y.front) g in
    apart (omega (arith, low, high, e))

module _ (k : LineView) where
  by_fronts : (t : Ties) (x y : LinePlace) → nat_cmp x.front y.front ≡ Greater
      → is_lt (with_ties t (keys_of_places k) (bytes_of_places k) x y) ≡ false
  by_fronts AsTheyCame x y e = rw e refl
  by_fronts ByBytes x y e = rw e refl

  falls_by : (d : Direction) (t : Ties) (x y : LinePlace) → is_lt (front_order d x y) ≡ false → x.front ≢ y.front
      → is_lt (directed d (with_ties t (keys_of_places k) (bytes_of_places k)) x y) ≡ false
  falls_by Ascending t x y h apart = by_fronts t x y (more x.front y.front h apart)
  falls_by Descending t x y h apart = by_fronts t y x (more y.front x.front h (λ e. apart (sym e)))

  -- a place whose number is another one and not less stands behind by its key
  pub stands_behind : (o : LineOrder) (x y : LinePlace) → IsLinePlace k x → IsLinePlace k y
      → is_lt (front_order o.direction x y) ≡ false → x.front ≢ y.front
      → is_lt (keyed_order o (place_pair k x) (place_pair k y)) ≡ false
  stands_behind o x y hx hy h apart = ap is_lt (sym (same_order k o x y hx hy)) ∙ falls_by o.direction o.ties x y h apart

  -- ---- stable by numbers, and so by keys

  same_front : (d : Direction) (t : Ties) (z w : LinePlace) → directed d (with_ties t (keys_of_places k) (bytes_of_places k)) z w ≡ Equal
      → z.front ≡ w.front
  same_front Ascending AsTheyCame z w h = are_same z.front w.front (first_equal _ _ h)
  same_front Ascending ByBytes z w h = are_same z.front w.front (first_equal _ _ (first_equal _ _ h))
  same_front Descending AsTheyCame z w h = sym (are_same w.front z.front (first_equal _ _ h))
  same_front Descending ByBytes z w h = sym (are_same w.front z.front (first_equal _ _ (first_equal _ _ h)))

  fronts_tie : (d : Direction) (z w : LinePlace) → z.front ≡ w.front → ties (λ x y. is_lt (front_order d x y)) z w ≡ true
  fronts_tie Ascending z w e = rw (e, same_number w.front) refl
  fronts_tie Descending z w e = rw (e, same_number w.front) refl

  tie_at : (o : LineOrder) (z w : LinePlace) → ties (λ x y. is_lt (place_order k o x y)) z w ≡ true
      → ties (λ x y. is_lt (front_order o.direction x y)) z w ≡ true
  tie_at o z w h =
      fronts_tie o.direction z w (same_front o.direction o.ties z w (tied_are_equal (place_order k o) (place_total k o) z w h))

finer_at : {X : Type 0} (p : X → Bool) (b : Bool) (x : X) (xs ys : List X) → (p x ≡ true → b ≡ true) → xs ≡ filter p ys
    → cond (p x) (x ∷ xs) xs ≡ filter p (cond b (x ∷ ys) ys)
finer_at p true x xs ys h e = ap (λ zs. cond (p x) (x ∷ zs) zs) e
finer_at p false x xs ys h e = left_out (p x) h where
  left_out : (c : Bool) → (c ≡ true → false ≡ true) → cond c (x ∷ xs) xs ≡ filter p ys
  left_out true f = let g : false ≡ true = f refl in cc
  left_out false f = e

finer : {X : Type 0} (p q : X → Bool) → ((x : X) → p x ≡ true → q x ≡ true) → (xs : List X) → filter p xs ≡ filter p (filter q xs)
finer p q h [] = refl
finer p q h (x ∷ xs) = finer_at p (q x) x (filter p xs) (filter q xs) (h x) (finer p q h xs)

pub stable_by_keys : (k : LineView) (o : LineOrder) (xs ys : List LinePlace) → IsStable (front_order o.direction) xs ys
    → IsStable (place_order k o) xs ys
stable_by_keys k o xs ys h z =
    let p = ties (λ x y. is_lt (place_order k o x y)) z in
    let q = ties (λ x y. is_lt (front_order o.direction x y)) z in
    finer p q (tie_at k o z) ys ∙ (ap (filter p) (h z) ∙ sym (finer p q (tie_at k o z) xs))
