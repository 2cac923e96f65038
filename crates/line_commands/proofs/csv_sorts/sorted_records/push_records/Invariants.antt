-- What was appended, and then the records that are left, is the whole.
use Rattle.std.proofs.Common.{◌≡◌, ◌++◌, drop}
use Rattle.line_sorts.specs.InputLines.{ended_lines}
use Rattle.line_sorts.specs.ShownLines.{shown_lines}
use Rattle.line_commands.proofs.csv_sorts.sorted_records.push_records.Given as goal

abbrev pub invariant-loop-bytes : goal.invariant-loop-bytes
invariant-loop-bytes l =
    l.text.items ++ ended_lines 10 (shown_lines (drop l.bytes-index l.records)) ≡ l.initial.text.items ++ ended_lines 10 (shown_lines l.records)
