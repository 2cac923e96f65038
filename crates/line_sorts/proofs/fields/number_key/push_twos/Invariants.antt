-- What was appended, and then what is left, is the whole.
use Rattle.std.proofs.Common.{◌≡◌, ◌++◌, drop, map}
use Rattle.line_sorts.proofs.fields.number_key.push_twos.Given as goal

abbrev pub invariant-loop-digit : goal.invariant-loop-digit
invariant-loop-digit l = l.key.items ++ map (λ digit. 2) (drop l._digit-index l.digits) ≡ l.initial.key.items ++ map (λ digit. 2) l.digits
