use Rattle.std.proofs.Common.{◌≡◌, ◌+◌, length}
use Rattle.icu_index_keys.specs.KeyedLists.{names_to_come}
use Rattle.icu_index_keys.proofs.names.NamesIterator.next.Given as goal

abbrev pub invariant-passing : goal.invariant-passing
invariant-passing l = names_to_come l.self ≡ names_to_come l.fn.self

abbrev pub decreases-passing : goal.decreases-passing
decreases-passing l = length l.self.leaves.now + length l.self.last.now
