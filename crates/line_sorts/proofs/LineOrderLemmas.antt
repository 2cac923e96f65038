-- Orders of lines are total, with ties.
use Rattle.std.proofs.lemmas.Cmp.{back_total, nat_list_cmp_total, on_total, then_total}
use Rattle.std.specs.Cmp.{IsTotalOrder}
use Rattle.std.specs.declared.cmp.Ordering.{Ordering}
use Rattle.line_sorts.specs.KeyedOrders.{directed, keyed_order, ordered_as, with_ties}
use Rattle.line_sorts.specs.declared.line_order.Direction.{Direction}
use Rattle.line_sorts.specs.declared.line_order.Direction.TheVariants.{Ascending, Descending}
use Rattle.std.specs.Prelude.{ℕ, List}
use Rattle.line_sorts.specs.declared.line_order.LineOrder.{LineOrder}
use Rattle.line_sorts.specs.declared.line_order.Ties.{Ties}
use Rattle.line_sorts.specs.declared.line_order.Ties.TheVariants.{AsTheyCame, ByBytes}

tied_total : {X : Type 0} (ties : Ties) (order last : X → X → Ordering) → IsTotalOrder order → IsTotalOrder last
    → IsTotalOrder (with_ties ties order last)
tied_total AsTheyCame order last h k = h
tied_total ByBytes order last h k = then_total h k

pub directed_total : {X : Type 0} (direction : Direction) (order : X → X → Ordering) → IsTotalOrder order
    → IsTotalOrder (directed direction order)
directed_total Ascending order h = h
directed_total Descending order h = back_total h

-- an order of lines is total, where both that it is made of are
pub ordered_total : {X : Type 0} (o : LineOrder) (order last : X → X → Ordering) → IsTotalOrder order → IsTotalOrder last
    → IsTotalOrder (ordered_as o order last)
ordered_total o order last h k = directed_total o.direction (with_ties o.ties order last) (tied_total o.ties order last h k)

-- that by keys is
pub keyed_total : (o : LineOrder) → IsTotalOrder (keyed_order o)
keyed_total o =
    ordered_total o _ _ (on_total (λ (x : List ℕ × List ℕ). x.0) nat_list_cmp_total)
    (on_total (λ (x : List ℕ × List ℕ). x.1) nat_list_cmp_total)
