use Rattle.std.proofs.Common.{◌≡◌, length}
use Rattle.icu_cldr_root.proofs.RangePlaceLemmas.{FindsBehind}
use Rattle.icu_cldr_root.proofs.range_places.places_of.Given as goal

-- the ranges behind are found
abbrev pub invariant-loop-index : goal.invariant-loop-index
invariant-loop-index l = record {
  len : length l.places.items ≡ 0x110000;
  finds : FindsBehind l.places.items l.ranges l.index;
}
