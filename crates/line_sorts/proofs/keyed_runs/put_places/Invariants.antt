-- The places so far, and then those that stood there.
use Rattle.std.proofs.Common.{◌≡◌, length, map, take}
use Rattle.line_sorts.proofs.keyed_runs.put_places.Given as goal

abbrev pub invariant-loop-index : goal.invariant-loop-index
invariant-loop-index l = record {
  len : length l.run ≡ length l.initial.run;
  put : take l.index l.run ≡ map (λ it. it.place) (take l.index l.places);
}
