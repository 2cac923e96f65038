-- The places so far, and then those of the rest, are all; the keys are bytes.
use Rattle.std.proofs.Common.{◌≡◌, ◌++◌, drop, map}
use Rattle.std.specs.List.{AllByRecursion}
use Rattle.icu_order_levels.specs.beginnings.KeyBeginnings.{AreBytes}
use Rattle.line_sorts.specs.KeyBuffers.{place_pair, view_of}
use Rattle.line_sorts.specs.inner.SettledPlaces.{second_place}
use Rattle.line_sorts.proofs.sort_lines.fill_seconds.Given as goal

abbrev pub invariant-loop-place : goal.invariant-loop-place
invariant-loop-place l = record {
  seconds : l.seconds.items ++ map (second_place (view_of l.keyed)) (drop l.place-index l.places) ≡ map (second_place (view_of l.keyed)) l.places;
  bytes : AllByRecursion (λ p. AreBytes (place_pair (view_of l.keyed) p).0) l.seconds.items;
}
