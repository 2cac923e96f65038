-- What was appended spells the bytes that were gone through.
use Rattle.std.proofs.Common.{◌≡◌, ◌++◌, take}
use Rattle.collate_commands.specs.KeyText.{spaced}
use Rattle.collate_commands.proofs.key_line.push_spaced.Given as goal

abbrev pub invariant-loop-byte : goal.invariant-loop-byte
invariant-loop-byte l = l.line.items ≡ l.fn.line.items ++ spaced (take l.byte-index l.bytes)
