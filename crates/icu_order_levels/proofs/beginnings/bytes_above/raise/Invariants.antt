use Rattle.std.proofs.Common.{◌≡◌, length}
use Rattle.icu_order_levels.specs.beginnings.KeyBeginnings.{least_above}
use Rattle.icu_order_levels.proofs.beginnings.bytes_above.raise.Given as goal

abbrev pub invariant-raising : goal.invariant-raising
invariant-raising l = least_above l.fn.bytes.items ≡ least_above l.bytes.items

abbrev pub decreases-raising : goal.decreases-raising
decreases-raising l = length l.bytes.items
