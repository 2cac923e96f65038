-- Several keys of one line as one, which orders as they do one after another.
use Rattle.std.specs.Prelude.{◌≡◌, ℕ, ◌+◌, ◌-◌, ◌<◌, nat_lt, List, [], ◌∷◌, ◌++◌, if◌then◌else◌, map}
use Rattle.std.specs.List.{AllByRecursion}
use Rattle.std.specs.Ordering.{ordering_then}
use Rattle.std.specs.declared.cmp.Ordering.{Ordering}
use Rattle.icu_order_levels.specs.ListOrder.{list_order}
use Rattle.line_sorts.specs.KeyedOrders.{directed}
use Rattle.line_sorts.specs.declared.line_order.Direction.{Direction}
use Rattle.line_sorts.specs.declared.line_order.Direction.TheVariants.{Ascending, Descending}

-- a byte of a key: 0 and 1 get a 1 before them
abbrev pub marked : ℕ → List ℕ
marked b = if nat_lt b 2 then 1 ∷ (b + 1) ∷ [] else b ∷ []

-- a key with a 0 behind it, which no byte of a key has
abbrev pub ended_key : List ℕ → List ℕ
ended_key [] = 0 ∷ []
ended_key (b ∷ bs) = marked b ++ ended_key bs

-- a key in a direction: for the descending one each byte is taken from 255
abbrev pub directed_key : Direction → List ℕ → List ℕ
directed_key Ascending key = ended_key key
directed_key Descending key = map (λ b. 255 - b) (ended_key key)

-- bytes, each below 256
abbrev pub AreBytes : List ℕ → Type 0
AreBytes bs = AllByRecursion (λ b. b < 256) bs

-- keys in a direction, with others behind them, are in the order of the keys in that direction, and then of the others
abbrev pub DirectedKeysOrder : Type 0
DirectedKeysOrder = (d : Direction) (x y s t : List ℕ) → AreBytes x → AreBytes y
    → list_order (directed_key d x ++ s) (directed_key d y ++ t) ≡ ordering_then (directed d list_order x y) (list_order s t)
