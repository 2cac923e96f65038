-- What is left comes to the same.
use Rattle.std.proofs.Common.{◌≡◌, length}
use Rattle.line_sorts.specs.fields.LineFields.{drop_while, is_no_blank}
use Rattle.line_sorts.proofs.fields.passing.from_blank.Given as goal

abbrev pub invariant-passing : goal.invariant-passing
invariant-passing l = drop_while is_no_blank l.left ≡ drop_while is_no_blank l.fn.line

abbrev pub decreases-passing : goal.decreases-passing
decreases-passing l = length l.left
