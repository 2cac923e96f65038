-- Places order as the lines do that stand at them.
use Rattle.std.proofs.Common.{◌≡◌, ℕ, drop, ◌<◌, ◌≤◌, ◌⊎◌, inl, inr, sym, ap, ◌∙◌, arith, subst}
use Rattle.std.proofs.lemmas.Bool.{cases_lt}
use Rattle.std.proofs.lemmas.Cmp.{nat_cmp_total, nat_list_cmp_total, on_total, then_total}
use Rattle.std.specs.Cmp.{IsTotalOrder}
use Rattle.std.specs.Ordering.{nat_cmp, ordering_reverse, ordering_then}
use Rattle.std.specs.declared.cmp.Ordering.{Ordering}
use Rattle.std.specs.declared.cmp.Ordering.TheVariants.{Less, Greater}
use Rattle.icu_index_keys.specs.inner.NameEntries.{prefix_of}
use Rattle.icu_order_levels.proofs.Order.{less_number, more_number, same_number}
use Rattle.icu_order_levels.specs.ListOrder.{list_order}
use Rattle.line_sorts.proofs.LineOrderLemmas.{ordered_total}
use Rattle.line_sorts.proofs.FrontTellsLemmas.{front_tells}
use Rattle.line_sorts.proofs.SecondPlaceLemmas.{second_tells}
use Rattle.line_sorts.specs.KeyBuffers.{LineView, place_pair}
use Rattle.line_sorts.specs.KeyedOrders.{bytes_of_lines_order, directed, keyed_order, keys_of_lines_order, with_ties}
use Rattle.line_sorts.specs.declared.line_order.Direction.{Direction}
use Rattle.line_sorts.specs.declared.line_order.Direction.TheVariants.{Ascending, Descending}
use Rattle.line_sorts.specs.declared.line_order.LineOrder.{LineOrder}
use Rattle.line_sorts.specs.declared.line_order.Ties.{Ties}
use Rattle.line_sorts.specs.declared.line_order.Ties.TheVariants.{AsTheyCame, ByBytes}
use Rattle.line_sorts.specs.declared.line_places.LinePlace.{LinePlace}
use Rattle.line_sorts.specs.inner.PlaceOrders.{IsLinePlace, bytes_of_places, keys_of_places, place_order}
use Rattle.line_sorts.specs.inner.SettledPlaces.{IsSecondPlace}

-- a number before an order that it tells decides nothing else
tells : (x y : ℕ) (o : Ordering) → (x < y → o ≡ Less) → (y < x → o ≡ Greater) → ordering_then (nat_cmp x y) o ≡ o
tells x y o less more = by (cases_lt x y) where
  by_more : (y < x) ⊎ (x ≤ y) → y ≤ x → ordering_then (nat_cmp x y) o ≡ o
  by_more (inl h) low = ap (λ p. ordering_then p o) (more_number x y h) ∙ sym (more h)
  by_more (inr h) low = let e : x ≡ y = omega arith in rw e (ap (λ p. ordering_then p o) (same_number y))

  by : (x < y) ⊎ (y ≤ x) → ordering_then (nat_cmp x y) o ≡ o
  by (inl h) = ap (λ p. ordering_then p o) (less_number x y h) ∙ sym (less h)
  by (inr h) = by_more (cases_lt y x) h

module _ (k : LineView) where
  same_keys : (x y : LinePlace) → IsLinePlace k x → IsLinePlace k y → keys_of_places k x y ≡ keys_of_lines_order (place_pair k x) (place_pair k y)
  same_keys x y h g =
      let one = (place_pair k x).0 in
      let other = (place_pair k y).0 in
      tells x.front y.front (list_order one other)
      (λ low. front_tells one other h.bytes g.bytes (subst (λ n. n < prefix_of other) h.begins (subst (λ n. x.front < n) g.begins low)))
      (λ high. nat_list_cmp_total.antisymm one other
      ∙ ap ordering_reverse (front_tells other one g.bytes h.bytes (subst (λ n. n < prefix_of one) g.begins (subst (λ n. y.front < n) h.begins high))))

  second_keys : (f : ℕ) (x y : LinePlace) → IsSecondPlace k f x → IsSecondPlace k f y → keys_of_places k x y ≡ keys_of_lines_order (place_pair k x) (place_pair k y)
  second_keys f x y h g =
      let one = (place_pair k x).0 in
      let other = (place_pair k y).0 in
      tells x.front y.front (list_order one other)
      (λ low. second_tells one other (h.begins ∙ sym g.begins) h.bytes g.bytes
      (subst (λ n. n < prefix_of (drop 8 other)) h.second (subst (λ n. x.front < n) g.second low)))
      (λ high. nat_list_cmp_total.antisymm one other
      ∙ ap ordering_reverse (second_tells other one (g.begins ∙ sym h.begins) g.bytes h.bytes
      (subst (λ n. n < prefix_of (drop 8 one)) g.second (subst (λ n. y.front < n) h.second high))))

  with_same_ties : (ties : Ties) (x y : LinePlace) → keys_of_places k x y ≡ keys_of_lines_order (place_pair k x) (place_pair k y)
      → with_ties ties (keys_of_places k) (bytes_of_places k) x y
      ≡ with_ties ties keys_of_lines_order bytes_of_lines_order (place_pair k x) (place_pair k y)
  with_same_ties AsTheyCame x y e = e
  with_same_ties ByBytes x y e = ap (λ r. ordering_then r (bytes_of_places k x y)) e

  in_direction : (d : Direction) (ties : Ties) (x y : LinePlace)
      → keys_of_places k x y ≡ keys_of_lines_order (place_pair k x) (place_pair k y)
      → keys_of_places k y x ≡ keys_of_lines_order (place_pair k y) (place_pair k x)
      → directed d (with_ties ties (keys_of_places k) (bytes_of_places k)) x y
      ≡ directed d (with_ties ties keys_of_lines_order bytes_of_lines_order) (place_pair k x) (place_pair k y)
  in_direction Ascending ties x y e i = with_same_ties ties x y e
  in_direction Descending ties x y e i = with_same_ties ties y x i

  -- places order as lines with keys
  pub same_order : (o : LineOrder) (x y : LinePlace) → IsLinePlace k x → IsLinePlace k y
      → place_order k o x y ≡ keyed_order o (place_pair k x) (place_pair k y)
  same_order o x y h g = in_direction o.direction o.ties x y (same_keys x y h g) (same_keys y x g h)

  -- so do those of one run by their second numbers
  pub second_order : (o : LineOrder) (f : ℕ) (x y : LinePlace) → IsSecondPlace k f x → IsSecondPlace k f y
      → place_order k o x y ≡ keyed_order o (place_pair k x) (place_pair k y)
  second_order o f x y h g = in_direction o.direction o.ties x y (second_keys f x y h g) (second_keys f y x g h)

  -- their order is total
  pub place_total : (o : LineOrder) → IsTotalOrder (place_order k o)
  place_total o =
      ordered_total o (keys_of_places k) (bytes_of_places k)
      (then_total (on_total (λ (p : LinePlace). p.front) nat_cmp_total) (on_total (λ (p : LinePlace). (place_pair k p).0) nat_list_cmp_total))
      (on_total (λ (p : LinePlace). (place_pair k p).1) nat_list_cmp_total)
