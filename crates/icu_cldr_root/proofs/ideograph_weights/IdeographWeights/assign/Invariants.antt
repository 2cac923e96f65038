use Rattle.std.proofs.Common.{◌≡◌, ◌+◌, ◌*◌, ◌<◌, ◌++◌, drop}
use Rattle.icu_cldr_root.specs.IdeographOrder.{first_ordinal, ideograph_count}
use Rattle.icu_cldr_root.specs.inner.WeightedRanges.{weighted_from}
use Rattle.icu_cldr_root.proofs.ideograph_weights.IdeographWeights.assign.Given as goal

-- the ranges so far have their ordinals, and the others have room
abbrev pub invariant-loop-range : goal.invariant-loop-range
invariant-loop-range l = record {
  ranges : l.weighted.items ++ weighted_from l.ordinal (drop l.range-index l.ranges) ≡ weighted_from (first_ordinal l.ranges) l.ranges;
  room : l.ordinal + 2 * ideograph_count (drop l.range-index l.ranges) < 0xFE * 64516;
}
