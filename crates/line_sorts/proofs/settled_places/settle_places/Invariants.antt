-- What was settled so far, and what is left.
use Rattle.std.proofs.Common.{◌≡◌, ◌≤◌, ◌-◌, drop, length, take}
use Rattle.line_sorts.proofs.SettledLemmas.{LeftToSettle}
use Rattle.line_sorts.proofs.settled_places.settle_places.Given as goal

abbrev pub invariant-settling : goal.invariant-settling
invariant-settling g l = record {
  len : length l.places ≡ length l.initial.places;
  bound : l.done ≤ length l.places;
  left : LeftToSettle (g.L.TiedLines.view l.lines) l.order l.initial.places (take l.done l.places) (drop l.done l.places);
}

abbrev pub decreases-settling : goal.decreases-settling
decreases-settling g l = length l.places - l.done
