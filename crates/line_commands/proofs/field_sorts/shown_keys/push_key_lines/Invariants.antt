-- What was appended, and then what is left, is the whole.
use Rattle.std.proofs.Common.{◌≡◌, ◌++◌, drop}
use Rattle.line_commands.specs.field_sorts.ShownKeys.{key_lines}
use Rattle.line_commands.proofs.field_sorts.shown_keys.push_key_lines.Given as goal

abbrev pub invariant-loop-sort : goal.invariant-loop-sort
invariant-loop-sort l =
    l.text.items ++ key_lines l.fields.ends (drop l.sort-index l.sort-items) l.line
    ≡ l.initial.text.items ++ key_lines l.fields.ends l.sort-items l.line
