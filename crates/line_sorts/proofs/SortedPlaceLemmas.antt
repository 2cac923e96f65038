-- Places that are sorted by numbers and then settled.
use Rattle.std.proofs.Common.{List, ◌∙◌}
use Rattle.std.proofs.lemmas.List.Sorted.{IsPermutation-map, IsPermutation-trans}
use Rattle.std.specs.List.{AllByRecursion}
use Rattle.std.specs.List.Sorted.{IsPermutation, IsStable}
use Rattle.line_sorts.proofs.FrontOrderLemmas.{stable_by_keys}
use Rattle.line_sorts.proofs.LineOrderLemmas.{keyed_total}
use Rattle.line_sorts.proofs.LinePlaceLemmas.{same_order}
use Rattle.line_sorts.proofs.MappedOrderLemmas.{all_still, stable_mapped}
use Rattle.line_sorts.specs.KeyBuffers.{LineView, pairs_at, place_pair}
use Rattle.line_sorts.specs.KeyedOrders.{keyed_order}
use Rattle.line_sorts.specs.declared.line_order.LineOrder.{LineOrder}
use Rattle.line_sorts.specs.declared.line_places.LinePlace.{LinePlace}
use Rattle.line_sorts.specs.inner.PlaceOrders.{IsLinePlace, front_order, place_order}
use Rattle.line_sorts.specs.inner.SettledPlaces.{Settles}

module _ (k : LineView) (o : LineOrder) (places sorted : List LinePlace) (moved : IsPermutation places sorted)
    (right : AllByRecursion (IsLinePlace k) places) where
  pub still_right : AllByRecursion (IsLinePlace k) sorted
  still_right = all_still (IsLinePlace k) places sorted moved right

  -- the lines there, in any order that keeps those with one number as they stood
  pub lines_moved : (settled : List LinePlace) → Settles k o sorted settled → IsPermutation (pairs_at k places) (pairs_at k settled)
  lines_moved settled s =
      IsPermutation-trans (pairs_at k places) (pairs_at k sorted) (pairs_at k settled) (IsPermutation-map (place_pair k) places sorted moved) s.moved

  pub lines_stable : IsStable (front_order o.direction) places sorted → (settled : List LinePlace) → Settles k o sorted settled
      → IsStable (keyed_order o) (pairs_at k places) (pairs_at k settled)
  lines_stable stable settled s =
      let first : IsStable (keyed_order o) (pairs_at k places) (pairs_at k sorted) =
      stable_mapped (place_pair k) (place_order k o) (keyed_order o) (IsLinePlace k) (same_order k o) (keyed_total o) places sorted right still_right moved
      (stable_by_keys k o places sorted stable) in
      (λ z. s.stable z ∙ first z)
