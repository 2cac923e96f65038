-- The weights so far, and those that are left.
use Rattle.std.proofs.Common.{◌≡◌, ◌++◌, length}
use Rattle.icu_order_levels.specs.Numbers.{number_weights, value_of}
use Rattle.icu_element_matches.specs.steady_numbers.SteadyNumbers.{weights_left}
use Rattle.icu_element_matches.proofs.numbers.push_number.Given as goal

abbrev pub invariant-weights : goal.invariant-weights
invariant-weights l = l.weights.items ++ weights_left l.number ≡ l.fn.weights.items ++ number_weights l.lead (value_of l.digits)

abbrev pub decreases-weights : goal.decreases-weights
decreases-weights l = length (weights_left l.number)
