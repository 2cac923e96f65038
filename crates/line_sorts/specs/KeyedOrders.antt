-- The order of lines with sort keys, each a key and a line (UTS #10, "Compare Sort Keys").
use Rattle.std.specs.Prelude.{ℕ, List}
use Rattle.std.specs.Ordering.{ordering_then}
use Rattle.std.specs.declared.cmp.Ordering.{Ordering}
use Rattle.icu_order_levels.specs.ListOrder.{list_order}
use Rattle.line_sorts.specs.declared.line_order.Direction.{Direction}
use Rattle.line_sorts.specs.declared.line_order.Direction.TheVariants.{Ascending, Descending}
use Rattle.line_sorts.specs.declared.line_order.LineOrder.{LineOrder}
use Rattle.line_sorts.specs.declared.line_order.Ties.{Ties}
use Rattle.line_sorts.specs.declared.line_order.Ties.TheVariants.{AsTheyCame, ByBytes}

-- an order in a direction
abbrev pub directed : {X : Type 0} → Direction → (X → X → Ordering) → X → X → Ordering
directed Ascending order x y = order x y
directed Descending order x y = order y x

-- an order, and another of what ties by the first, where ties are not to stand as they came
abbrev pub with_ties : {X : Type 0} → Ties → (X → X → Ordering) → (X → X → Ordering) → X → X → Ordering
with_ties AsTheyCame order last x y = order x y
with_ties ByBytes order last x y = ordering_then (order x y) (last x y)

-- an order of lines: a first one, and another of what ties by it, in a direction
abbrev pub ordered_as : {X : Type 0} → LineOrder → (X → X → Ordering) → (X → X → Ordering) → X → X → Ordering
ordered_as o order last = directed o.direction (with_ties o.ties order last)

-- the order of the keys of two lines
abbrev pub keys_of_lines_order : List ℕ × List ℕ → List ℕ × List ℕ → Ordering
keys_of_lines_order x y = list_order x.0 y.0

-- the order of their bytes
abbrev pub bytes_of_lines_order : List ℕ × List ℕ → List ℕ × List ℕ → Ordering
bytes_of_lines_order x y = list_order x.1 y.1

-- by keys, and then by the bytes of the lines
abbrev pub keyed_order : LineOrder → List ℕ × List ℕ → List ℕ × List ℕ → Ordering
keyed_order o = ordered_as o keys_of_lines_order bytes_of_lines_order
