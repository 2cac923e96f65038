use Rattle.std.proofs.Common.{◌≡◌, length}
use Rattle.icu_order_levels.specs.Numbers.{without_first_zeros}
use Rattle.icu_element_matches.proofs.numbers.without_first_zeros.Given as goal

-- the digits that were dropped are zeros
abbrev pub invariant-loop-left : goal.invariant-loop-left
invariant-loop-left l = without_first_zeros l.left ≡ without_first_zeros l.digits

abbrev pub decreases-loop-left : goal.decreases-loop-left
decreases-loop-left l = length l.left
