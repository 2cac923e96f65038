-- Places with the keys of their lines.
use Rattle.std.specs.Prelude.{◌≡◌, ℕ, List, [], get_or}
use Rattle.std.specs.declared.cmp.Ordering.{Ordering}
use Rattle.line_sorts.specs.KeyBuffers.{LineView}
use Rattle.line_sorts.specs.KeyedOrders.{keyed_order}
use Rattle.line_sorts.specs.declared.line_order.LineOrder.{LineOrder}
use Rattle.line_sorts.specs.declared.keyed_runs.KeyedPlace.{KeyedPlace}

-- a place has the key of its line
abbrev pub IsKeyedPlace : LineView → KeyedPlace → Type 0
IsKeyedPlace v p = p.key.items ≡ v.key_at p.place.index

-- the key and the line
abbrev pub keyed_pair : List (List ℕ) → KeyedPlace → List ℕ × List ℕ
keyed_pair lines p = (p.key.items, get_or lines p.place.index [])

-- the order of lines by keys that their places have
abbrev pub keyed_places_order : List (List ℕ) → LineOrder → KeyedPlace → KeyedPlace → Ordering
keyed_places_order lines o x y = keyed_order o (keyed_pair lines x) (keyed_pair lines y)
