-- A run that is sorted by keys that its places have.
use Rattle.std.proofs.Common.{◌≡◌, ℕ, List, [], ◌∷◌, get_or, map, refl, sym, ap, ◌∙◌, subst}
use Rattle.std.proofs.lemmas.Cmp.{on_total}
use Rattle.std.proofs.lemmas.List.Sorted.{IsPermutation-map}
use Rattle.std.specs.Cmp.{IsTotalOrder}
use Rattle.std.specs.List.{AllByRecursion}
use Rattle.std.specs.List.Sorted.{IsPermutation, IsSorted, IsStable}
use Rattle.line_sorts.proofs.LineOrderLemmas.{keyed_total}
use Rattle.line_sorts.proofs.MappedOrderLemmas.{all_still, ascends_mapped, stable_mapped}
use Rattle.line_sorts.specs.KeyBuffers.{LineView, pairs_at, place_pair}
use Rattle.line_sorts.specs.KeyedOrders.{keyed_order}
use Rattle.line_sorts.specs.declared.line_order.LineOrder.{LineOrder}
use Rattle.line_sorts.specs.declared.line_places.LinePlace.{LinePlace}
use Rattle.line_sorts.specs.declared.keyed_runs.KeyedPlace.{KeyedPlace}
use Rattle.line_sorts.specs.inner.KeyedPlaces.{IsKeyedPlace, keyed_pair, keyed_places_order}
use Rattle.line_sorts.specs.inner.SettledPlaces.{Settles}

pub keyed_places_total : (lines : List (List ℕ)) (o : LineOrder) → IsTotalOrder (keyed_places_order lines o)
keyed_places_total lines o = on_total (keyed_pair lines) (keyed_total o)

module _ (v : LineView) (o : LineOrder) (lines : List (List ℕ)) (at : (i : ℕ) → v.line_at i ≡ get_or lines i []) where
  abbrev pair_of : KeyedPlace → List ℕ × List ℕ
  pair_of p = place_pair v p.place

  pair_is : (p : KeyedPlace) → IsKeyedPlace v p → keyed_pair lines p ≡ pair_of p
  pair_is p h = ap (λ k. (k, get_or lines p.place.index [])) h ∙ ap (λ l. (v.key_at p.place.index, l)) (sym (at p.place.index))

  same : (x y : KeyedPlace) → IsKeyedPlace v x → IsKeyedPlace v y → keyed_places_order lines o x y ≡ keyed_order o (pair_of x) (pair_of y)
  same x y h g = ap (λ p. keyed_order o p (keyed_pair lines y)) (pair_is x h) ∙ ap (keyed_order o (pair_of x)) (pair_is y g)

  pairs_are : (ps : List KeyedPlace) → pairs_at v (map (λ p. p.place) ps) ≡ map pair_of ps
  pairs_are [] = refl
  pairs_are (p ∷ ps) = ap (λ qs. pair_of p ∷ qs) (pairs_are ps)

  pub keyed_run : (run ys : List LinePlace) (ps qs : List KeyedPlace) → map (λ p. p.place) ps ≡ run → ys ≡ map (λ p. p.place) qs
      → AllByRecursion (IsKeyedPlace v) ps → IsPermutation ps qs → IsSorted (keyed_places_order lines o) qs
      → IsStable (keyed_places_order lines o) ps qs → Settles v o run ys
  keyed_run run ys ps qs e g are moved sorted stable =
      let first : map pair_of ps ≡ pairs_at v run = sym (pairs_are ps) ∙ ap (pairs_at v) e in
      let last : map pair_of qs ≡ pairs_at v ys = sym (pairs_are qs) ∙ ap (pairs_at v) (sym g) in
      let still = all_still (IsKeyedPlace v) ps qs moved are in
      record {
        moved = subst (λ (zs : List (List ℕ × List ℕ)). IsPermutation zs (pairs_at v ys)) first
            (subst (λ (zs : List (List ℕ × List ℕ)). IsPermutation (map pair_of ps) zs) last (IsPermutation-map pair_of ps qs moved));
        ascends = subst (λ (zs : List (List ℕ × List ℕ)). IsSorted (keyed_order o) zs) last
            (ascends_mapped pair_of (keyed_places_order lines o) (keyed_order o) (IsKeyedPlace v) same qs still sorted);
        stable = subst (λ (zs : List (List ℕ × List ℕ)). IsStable (keyed_order o) zs (pairs_at v ys)) first
            (subst (λ (zs : List (List ℕ × List ℕ)). IsStable (keyed_order o) (map pair_of ps) zs) last
            (stable_mapped pair_of (keyed_places_order lines o) (keyed_order o) (IsKeyedPlace v) same (keyed_total o) ps qs are still moved stable));
      }
