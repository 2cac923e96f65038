-- Places that are sorted by numbers and then settled are sorted as the lines are that stand at them.
use Rattle.std.proofs.Common.{List, sym, ◌∙◌, subst}
use Rattle.std.proofs.Math.Seq.{take_at}
use Rattle.std.specs.List.{AllByRecursion}
use Rattle.std.specs.List.Sorted.{IsPermutation, IsStable}
use Rattle.line_sorts.proofs.MappedOrderLemmas.{all_still}
use Rattle.line_sorts.proofs.SortedPlaceLemmas.{lines_moved, lines_stable}
use Rattle.line_sorts.specs.KeyBuffers.{pairs_at}
use Rattle.line_sorts.specs.KeyedOrders.{keyed_order}
use Rattle.line_sorts.specs.declared.line_places.LinePlace.{LinePlace}
use Rattle.line_sorts.specs.inner.PlaceOrders.{IsLinePlace}
use Rattle.line_sorts.specs.inner.SettledPlaces.{Settles}
use Rattle.line_sorts.proofs.settled_places.sorted_places.Goals as goal

pub settle_places-requires-clause-right : goal.settle_places-requires-clause-right
settle_places-requires-clause-right g c =
    let k = g.L.TiedLines.view c.args.lines.now in
    subst (λ (ps : List LinePlace). AllByRecursion (IsLinePlace k) ps) (sym c.as_mut_slice.ensures.value)
    (all_still (IsLinePlace k) c.args.unsorted.items c.sort_by_fronts.new.places.items c.sort_by_fronts.ensures.permutation c.requires)

pub returns-clause-permutation : goal.returns-clause-permutation
returns-clause-permutation g c =
    let k = g.L.TiedLines.view c.args.lines.now in
    let o = c.args.order in
    let unsorted = c.args.unsorted.items in
    let sorted = c.sort_by_fronts.new.places.items in
    let settled : List LinePlace = c.settle_places.new.places in
    let settles : Settles k o sorted settled =
    subst (λ (ps : List LinePlace). Settles k o ps settled) c.as_mut_slice.ensures.value c.in_ok-settle_places.ensures.settles in
    subst (λ (ps : List LinePlace). IsPermutation (pairs_at k unsorted) (pairs_at k ps))
    (sym (take_at settled _ c.sort_by_fronts.new.places.len (c.settle_places.ensures.len ∙ c.as_mut_slice.ensures.len)))
    (lines_moved k o unsorted sorted c.sort_by_fronts.ensures.permutation c.requires settled settles)

pub returns-clause-stable : goal.returns-clause-stable
returns-clause-stable g c =
    let k = g.L.TiedLines.view c.args.lines.now in
    let o = c.args.order in
    let unsorted = c.args.unsorted.items in
    let sorted = c.sort_by_fronts.new.places.items in
    let settled : List LinePlace = c.settle_places.new.places in
    let settles : Settles k o sorted settled =
    subst (λ (ps : List LinePlace). Settles k o ps settled) c.as_mut_slice.ensures.value c.in_ok-settle_places.ensures.settles in
    subst (λ (ps : List LinePlace). IsStable (keyed_order o) (pairs_at k unsorted) (pairs_at k ps))
    (sym (take_at settled _ c.sort_by_fronts.new.places.len (c.settle_places.ensures.len ∙ c.as_mut_slice.ensures.len)))
    (lines_stable k o unsorted sorted c.sort_by_fronts.ensures.permutation c.requires c.sort_by_fronts.ensures.stable settled settles)
