use Rattle.std.proofs.Common.{◌≡◌, ◌≤◌, length, take}
use Rattle.icu_search.specs.inner.FirstWeights.{counted_primaries}
use Rattle.icu_search.proofs.pattern_weights.counted.Given as goal

-- those of the elements so far, no more than there are
abbrev pub invariant-loop-element : goal.invariant-loop-element
invariant-loop-element l = record {
  so_far : l.count ≡ length (counted_primaries l.last (take l.element-index l.elements));
  inside : l.count ≤ l.element-index;
}
