-- What is left comes to the same.
use Rattle.std.proofs.Common.{◌≡◌, length}
use Rattle.line_sorts.specs.fields.LineFields.{drop_while}
use Rattle.line_sorts.specs.fields.NumberKeys.{is_zero}
use Rattle.line_sorts.proofs.fields.number_key.past_zeros.Given as goal

abbrev pub invariant-passing : goal.invariant-passing
invariant-passing l = drop_while is_zero l.left ≡ drop_while is_zero l.fn.digits

abbrev pub decreases-passing : goal.decreases-passing
decreases-passing l = length l.left
