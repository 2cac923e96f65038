-- What was appended, and then what is left, is the whole.
use Rattle.std.proofs.Common.{◌≡◌, ◌++◌, drop}
use Rattle.line_sorts.specs.ShownLines.{shown_lines}
use Rattle.line_commands.specs.field_sorts.ShownKeys.{lines_with_keys}
use Rattle.line_commands.proofs.field_sorts.shown_keys.text_with_keys.Given as goal

abbrev pub invariant-loop-line : goal.invariant-loop-line
invariant-loop-line l =
    l.text.items ++ lines_with_keys l.fields.ends l.fields.sorts.now l.is_whole (shown_lines (drop l.line-index l.line-items))
    ≡ lines_with_keys l.fields.ends l.fields.sorts.now l.is_whole (shown_lines l.line-items)
