-- The places so far, and then those to come, are all; they have the keys of their lines.
use Rattle.std.proofs.Common.{◌≡◌, ◌++◌, drop, map}
use Rattle.std.specs.List.{AllByRecursion}
use Rattle.line_sorts.specs.KeyBuffers.{view_by}
use Rattle.line_sorts.specs.ShownLines.{shown_lines}
use Rattle.line_sorts.specs.inner.KeyedPlaces.{IsKeyedPlace}
use Rattle.line_sorts.proofs.keyed_runs.keyed_places.Given as goal

abbrev pub invariant-loop-place : goal.invariant-loop-place
invariant-loop-place g l = record {
  places : map (λ it. it.place) l.all.items ++ drop l.place-index l.run ≡ l.run;
  keys : AllByRecursion (IsKeyedPlace (view_by (g.C.LineComparer.key_of l.comparer) (shown_lines l.keyed.lines.now))) l.all.items;
}
