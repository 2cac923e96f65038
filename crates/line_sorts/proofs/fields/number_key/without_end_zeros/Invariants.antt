-- What is left comes to the same.
use Rattle.std.proofs.Common.{◌≡◌, length}
use Rattle.line_sorts.specs.fields.NumberKeys.{without_end_zeros}
use Rattle.line_sorts.proofs.fields.number_key.without_end_zeros.Given as goal

abbrev pub invariant-passing : goal.invariant-passing
invariant-passing l = without_end_zeros l.left ≡ without_end_zeros l.fn.digits

abbrev pub decreases-passing : goal.decreases-passing
decreases-passing l = length l.left
