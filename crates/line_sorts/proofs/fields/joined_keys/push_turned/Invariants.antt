-- What was appended, and then what is left, is the whole.
use Rattle.std.proofs.Common.{◌≡◌, ◌++◌, ◌-◌, drop, map}
use Rattle.line_sorts.proofs.fields.joined_keys.push_turned.Given as goal

abbrev pub invariant-loop-byte : goal.invariant-loop-byte
invariant-loop-byte l = l.key.items ++ map (λ b. 255 - b) (drop l.byte-index l.bytes) ≡ l.initial.key.items ++ map (λ b. 255 - b) l.bytes
