-- The places so far, and then the lines to come, are all.
use Rattle.std.proofs.Common.{◌≡◌, ◌++◌, drop}
use Rattle.std.specs.List.{AllByRecursion, zip}
use Rattle.line_sorts.specs.KeyBuffers.{keyed_pairs, keys_in, pairs_at, view_of}
use Rattle.line_sorts.specs.ShownLines.{shown_lines}
use Rattle.line_sorts.specs.inner.PlaceOrders.{IsLinePlace}
use Rattle.line_sorts.proofs.sort_lines.places_of.Given as goal

abbrev pub invariant-loop-index : goal.invariant-loop-index
invariant-loop-index l = record {
  all : pairs_at (view_of l.keyed) l.places.items ++ zip (drop l.index (keys_in l.keyed.keys.now)) (drop l.index (shown_lines l.keyed.lines.now)) ≡ keyed_pairs l.keyed;
  right : AllByRecursion (IsLinePlace (view_of l.keyed)) l.places.items;
}
