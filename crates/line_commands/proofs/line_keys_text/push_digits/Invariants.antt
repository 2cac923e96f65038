-- What was appended, and then the digits of what is left, is the whole.
use Rattle.std.proofs.Common.{◌≡◌, ◌++◌, drop}
use Rattle.std.specs.List.{flat_map}
use Rattle.collate_commands.specs.KeyText.{hex}
use Rattle.line_commands.proofs.line_keys_text.push_digits.Given as goal

abbrev pub invariant-loop-byte : goal.invariant-loop-byte
invariant-loop-byte l = l.text.items ++ flat_map hex (drop l.byte-index l.bytes) ≡ l.initial.text.items ++ flat_map hex l.bytes
