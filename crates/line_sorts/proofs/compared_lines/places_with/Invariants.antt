-- The places so far, and then those of the numbers to come, are all.
use Rattle.std.proofs.Common.{◌≡◌, ◌++◌, drop}
use Rattle.line_sorts.specs.inner.PlaceOrders.{numbered_places}
use Rattle.line_sorts.proofs.compared_lines.places_with.Given as goal

abbrev pub invariant-loop-index : goal.invariant-loop-index
invariant-loop-index l = l.places.items ++ numbered_places l.index (drop l.index l.fronts) ≡ numbered_places 0 l.fronts
