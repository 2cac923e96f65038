-- What is left comes to the same.
use Rattle.std.proofs.Common.{◌≡◌, length}
use Rattle.line_sorts.specs.fields.LineFields.{drop_while}
use Rattle.line_sorts.specs.fields.NumberKeys.{is_digit}
use Rattle.line_sorts.proofs.fields.number_key.past_digits.Given as goal

abbrev pub invariant-passing : goal.invariant-passing
invariant-passing l = drop_while is_digit l.left ≡ drop_while is_digit l.fn.bytes

abbrev pub decreases-passing : goal.decreases-passing
decreases-passing l = length l.left
