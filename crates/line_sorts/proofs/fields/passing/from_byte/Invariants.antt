-- What is left comes to the same.
use Rattle.std.proofs.Common.{◌≡◌, ◌==◌, not, length}
use Rattle.line_sorts.specs.fields.LineFields.{drop_while}
use Rattle.line_sorts.proofs.fields.passing.from_byte.Given as goal

abbrev pub invariant-passing : goal.invariant-passing
invariant-passing l = drop_while (λ b. not (b == l.byte)) l.left ≡ drop_while (λ b. not (b == l.byte)) l.fn.line

abbrev pub decreases-passing : goal.decreases-passing
decreases-passing l = length l.left
