use Rattle.std.proofs.Common.{◌+◌, ◌≤◌, length}
use Rattle.icu_index_keys.proofs.numbers.numbers_below.Given as goal

abbrev pub invariant-narrowing : goal.invariant-narrowing
invariant-narrowing l = l.base + l.size ≤ length l.numbers

abbrev pub decreases-narrowing : goal.decreases-narrowing
decreases-narrowing l = l.size

abbrev pub invariant-loop-index : goal.invariant-loop-index
invariant-loop-index l = l.count ≤ l.index
