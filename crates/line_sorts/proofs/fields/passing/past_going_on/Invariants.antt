-- What is left comes to the same.
use Rattle.std.proofs.Common.{◌≡◌, length}
use Rattle.line_sorts.specs.fields.LineFields.{drop_while, continues_char}
use Rattle.line_sorts.proofs.fields.passing.past_going_on.Given as goal

abbrev pub invariant-passing : goal.invariant-passing
invariant-passing l = drop_while continues_char l.left ≡ drop_while continues_char l.fn.line

abbrev pub decreases-passing : goal.decreases-passing
decreases-passing l = length l.left
