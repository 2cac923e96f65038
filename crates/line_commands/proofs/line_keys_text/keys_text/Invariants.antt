-- What was appended, and then what is left, is the whole.
use Rattle.std.proofs.Common.{◌≡◌, ◌++◌, drop}
use Rattle.icu_collator.specs.Collators.{collation_borrowed}
use Rattle.line_sorts.specs.ShownLines.{shown_lines}
use Rattle.line_commands.specs.LineKeyTexts.{keyed_lines_text}
use Rattle.line_commands.proofs.line_keys_text.keys_text.Given as goal

abbrev pub invariant-loop-line : goal.invariant-loop-line
invariant-loop-line l =
    let c = collation_borrowed l.collator in
    l.text.items ++ keyed_lines_text c l.separator (shown_lines (drop l.line-index l.line-items)) ≡ keyed_lines_text c l.separator (shown_lines l.line-items)
