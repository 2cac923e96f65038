-- Places that are sorted by the numbers that their keys begin with, and then run by run by what stands behind.
use Rattle.std.specs.Prelude.{◌≡◌, ℕ, suc, List, [], ◌∷◌, drop, nat_eq, if◌then◌else◌}
use Rattle.std.specs.List.Sorted.{IsPermutation, IsSorted, IsStable}
use Rattle.icu_order_levels.specs.beginnings.KeyBeginnings.{AreBytes}
use Rattle.icu_index_keys.specs.inner.NameEntries.{prefix_of}
use Rattle.line_sorts.specs.KeyBuffers.{LineView, place_pair, pairs_at}
use Rattle.line_sorts.specs.KeyedOrders.{keyed_order}
use Rattle.line_sorts.specs.declared.line_order.LineOrder.{LineOrder}
use Rattle.line_sorts.specs.declared.line_places.LinePlace.{LinePlace}
use Rattle.line_sorts.specs.inner.PlaceOrders.{IsLinePlace}

-- how many places from the first on have a number
abbrev pub first_alike : ℕ → List LinePlace → ℕ
first_alike f [] = 0
first_alike f (p ∷ ps) = if nat_eq p.front f then suc (first_alike f ps) else 0

-- the number of the first
abbrev pub front_of : List LinePlace → ℕ
front_of [] = 0
front_of (p ∷ ps) = p.front

-- how many have that of the first
abbrev pub first_run : List LinePlace → ℕ
first_run ps = first_alike (front_of ps) ps

-- the place of a line with the number of the second eight bytes of its key
abbrev pub second_place : LineView → LinePlace → LinePlace
second_place v p = record { front = prefix_of (drop 8 (place_pair v p).0); index = p.index }

-- a place whose key begins with a number
pub record IsPlaceOfRun (v : LineView) (f : ℕ) (p : LinePlace) : Type 0 where
  pub right : IsLinePlace v p
  pub alike : p.front ≡ f

-- a place with the number of the second eight bytes of its key, which begins with another one
pub record IsSecondPlace (v : LineView) (f : ℕ) (p : LinePlace) : Type 0 where
  pub second : p.front ≡ prefix_of (drop 8 (place_pair v p).0)
  pub begins : prefix_of (place_pair v p).0 ≡ f
  pub bytes : AreBytes (place_pair v p).0

-- the lines at places, sorted by their keys
pub record Settles (v : LineView) (o : LineOrder) (places settled : List LinePlace) : Type 0 where
  pub moved : IsPermutation (pairs_at v places) (pairs_at v settled)
  pub ascends : IsSorted (keyed_order o) (pairs_at v settled)
  pub stable : IsStable (keyed_order o) (pairs_at v places) (pairs_at v settled)
