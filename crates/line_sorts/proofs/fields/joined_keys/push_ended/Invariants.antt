-- What was appended, and then what is left, is the whole.
use Rattle.std.proofs.Common.{◌≡◌, ◌++◌, drop}
use Rattle.line_sorts.specs.fields.JoinedKeys.{ended_key}
use Rattle.line_sorts.proofs.fields.joined_keys.push_ended.Given as goal

abbrev pub invariant-loop-byte : goal.invariant-loop-byte
invariant-loop-byte l = l.key.items ++ ended_key (drop l.byte-index l.bytes) ≡ l.initial.key.items ++ ended_key l.bytes
