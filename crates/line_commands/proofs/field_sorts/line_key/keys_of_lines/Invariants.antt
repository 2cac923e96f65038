-- The lines that were gone through have their keys.
use Rattle.std.proofs.Common.{◌≡◌, map, take}
use Rattle.icu_collator.specs.Collators.{collation_borrowed}
use Rattle.line_sorts.specs.KeyBuffers.{keys_in}
use Rattle.line_sorts.specs.ShownLines.{shown_lines}
use Rattle.line_commands.specs.field_sorts.FieldOrders.{line_key}
use Rattle.line_commands.proofs.field_sorts.line_key.keys_of_lines.Given as goal

abbrev pub invariant-loop-line : goal.invariant-loop-line
invariant-loop-line l =
    keys_in l.keys
    ≡ map (line_key (collation_borrowed l.collator) l.fields.ends l.fields.sorts.now) (shown_lines (take l.line-index l.lines))
