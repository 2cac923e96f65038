-- The order of places of lines with sort keys: by the numbers that the keys begin with, and then by the keys.
use Rattle.std.specs.Prelude.{◌≡◌, ℕ, suc, List, [], ◌∷◌, take}
use Rattle.std.specs.Ordering.{nat_cmp, ordering_then}
use Rattle.std.specs.declared.cmp.Ordering.{Ordering}
use Rattle.icu_order_levels.specs.beginnings.KeyBeginnings.{AreBytes}
use Rattle.icu_index_keys.specs.inner.NameEntries.{prefix_of}
use Rattle.icu_order_levels.specs.ListOrder.{list_order}
use Rattle.line_sorts.specs.KeyBuffers.{LineView, place_pair}
use Rattle.line_sorts.specs.KeyedOrders.{directed, ordered_as}
use Rattle.line_sorts.specs.declared.line_order.Direction.{Direction}
use Rattle.line_sorts.specs.declared.line_order.LineOrder.{LineOrder}
use Rattle.line_sorts.specs.declared.line_places.LinePlace.{LinePlace}

-- the order of the keys at two places
abbrev pub keys_of_places : LineView → LinePlace → LinePlace → Ordering
keys_of_places v x y = ordering_then (nat_cmp x.front y.front) (list_order (place_pair v x).0 (place_pair v y).0)

-- the order of the bytes of their lines
abbrev pub bytes_of_places : LineView → LinePlace → LinePlace → Ordering
bytes_of_places v x y = list_order (place_pair v x).1 (place_pair v y).1

-- the order of the numbers that they have, in a direction
abbrev pub front_order : Direction → LinePlace → LinePlace → Ordering
front_order d = directed d (λ x y. nat_cmp x.front y.front)

-- by keys, and then by the bytes of the lines
abbrev pub place_order : LineView → LineOrder → LinePlace → LinePlace → Ordering
place_order v o = ordered_as o (keys_of_places v) (bytes_of_places v)

-- the number of a place is what its key begins with, which is bytes
pub record IsLinePlace (v : LineView) (p : LinePlace) : Type 0 where
  pub begins : p.front ≡ prefix_of (place_pair v p).0
  pub bytes : AreBytes (take 8 (place_pair v p).0)

-- the places of lines with these numbers, the first of which has an index
abbrev pub numbered_places : ℕ → List ℕ → List LinePlace
numbered_places i [] = []
numbered_places i (f ∷ fs) = record { front = f; index = i } ∷ numbered_places (suc i) fs
