use Rattle.std.proofs.Common.{◌≡◌, ◌<◌, ◌++◌, All, length}
use Rattle.icu_order_levels.specs.Numbers.{run_weights}
use Rattle.icu_element_matches.proofs.numbers.digit_run_weights.Given as goal

-- the weights so far, and then those of the digits that are left, are the weights of the run
abbrev pub invariant-loop-left : goal.invariant-loop-left
invariant-loop-left l = (l.weights.items ++ run_weights l.lead l.left ≡ run_weights l.lead l.digits) × All (λ d. d < 10) l.left

abbrev pub decreases-loop-left : goal.decreases-loop-left
decreases-loop-left l = length l.left
