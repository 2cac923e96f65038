-- The ranges so far, and those that are reached from them on, are all that are reached.
use Rattle.std.proofs.Common.{◌≡◌, ◌++◌, drop}
use Rattle.icu_table_provider.specs.inner.ReachedRanges.{reached_from, reached_ranges}
use Rattle.icu_table_provider.proofs.reordering.reached_ranges.Given as goal

abbrev pub invariant-loop-range : goal.invariant-loop-range
invariant-loop-range l = l.reached.items ++ reached_from l.highest (drop l.range-index l.ranges) ≡ reached_ranges l.ranges
