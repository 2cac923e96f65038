-- The lines that were gone through have their keys in the buffer.
use Rattle.std.proofs.Common.{◌≡◌, length, map, take, true}
use Rattle.icu_collator.specs.Collators.{collation_borrowed}
use Rattle.line_sorts.specs.KeyBuffers.{keys_cut}
use Rattle.line_sorts.specs.KeyParts.{ascends_to}
use Rattle.line_sorts.specs.ShownLines.{shown_lines}
use Rattle.collate_commands.specs.LineKeys.{key_of_line}
use Rattle.collate_commands.proofs.sort_keys.keys_of_lines.Given as goal

abbrev pub invariant-loop-line : goal.invariant-loop-line
invariant-loop-line l = record {
  ends : ascends_to 0 l.ends.items (length l.bytes.items) ≡ true;
  keys : keys_cut 0 l.ends.items l.bytes.items ≡ map (key_of_line (collation_borrowed l.collator)) (shown_lines (take l.line-index l.lines));
}
