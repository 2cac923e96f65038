use Rattle.std.proofs.Common.{◌≡◌, ◌-◌, drop, length, map}
use Rattle.icu_index_keys.specs.keyed_starts.Starts.{has_label, start_of, starts_in}
use Rattle.icu_index_keys.proofs.keyed_starts.keyed_starts.KeyedStarts.has_label_from.Given as goal

abbrev pub invariant-looking : goal.invariant-looking
invariant-looking l = has_label (drop l.at (starts_in l.self)) ≡ has_label (drop l.index (starts_in l.self))

abbrev pub decreases-looking : goal.decreases-looking
decreases-looking l = length l.self.starts.items - l.at
