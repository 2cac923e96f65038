-- What was counted, and what is alike from there on.
use Rattle.std.proofs.Common.{◌≡◌, ◌+◌, drop}
use Rattle.line_sorts.specs.inner.SettledPlaces.{first_alike}
use Rattle.line_sorts.proofs.settled_places.count_alike.Given as goal

abbrev pub invariant-loop-index : goal.invariant-loop-index
invariant-loop-index l = l.index + first_alike l.front (drop l.index l.places) ≡ first_alike l.front l.places
