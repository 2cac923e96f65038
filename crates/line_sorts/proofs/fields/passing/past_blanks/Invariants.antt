-- What is left comes to the same.
use Rattle.std.proofs.Common.{◌≡◌, length}
use Rattle.line_sorts.specs.fields.LineFields.{drop_while, is_blank_byte}
use Rattle.line_sorts.proofs.fields.passing.past_blanks.Given as goal

abbrev pub invariant-passing : goal.invariant-passing
invariant-passing l = drop_while is_blank_byte l.left ≡ drop_while is_blank_byte l.fn.line

abbrev pub decreases-passing : goal.decreases-passing
decreases-passing l = length l.left
