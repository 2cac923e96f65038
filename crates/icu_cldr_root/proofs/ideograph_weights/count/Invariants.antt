use Rattle.std.proofs.Common.{◌≡◌, ◌+◌, drop}
use Rattle.icu_cldr_root.specs.IdeographOrder.{ideograph_count}
use Rattle.icu_cldr_root.proofs.ideograph_weights.count.Given as goal

-- the characters so far
abbrev pub invariant-loop-range : goal.invariant-loop-range
invariant-loop-range l = l.count + ideograph_count (drop l.range-index l.ranges) ≡ ideograph_count l.ranges
