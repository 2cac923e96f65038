-- What was appended, and then what is left, is the whole.
use Rattle.std.proofs.Common.{◌≡◌, ◌++◌, drop, map}
use Rattle.line_commands.specs.field_sorts.ShownKeys.{shown_byte}
use Rattle.line_commands.proofs.field_sorts.shown_keys.push_shown_line.Given as goal

abbrev pub invariant-loop-byte : goal.invariant-loop-byte
invariant-loop-byte l = l.text.items ++ map shown_byte (drop l.byte-index l.line) ≡ l.initial.text.items ++ map shown_byte l.line
