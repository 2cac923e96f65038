-- The records so far, and then those of what is left, are those of the text.
use Rattle.std.proofs.Common.{◌≡◌, length}
use Rattle.line_sorts.specs.csv_records.CsvCuts.{past_line_ends}
use Rattle.line_sorts.proofs.csv_records.RecordCutLemmas.{GoesOn}
use Rattle.line_sorts.specs.ShownLines.{shown_lines}
use Rattle.line_sorts.proofs.csv_records.csv_cuts.csv_records.Given as goal

abbrev pub invariant-cutting : goal.invariant-cutting
invariant-cutting l = record {
  passed : past_line_ends l.left ≡ l.left;
  goes_on : GoesOn l.delimiter l.fn.text (shown_lines l.records.items) l.left;
}

abbrev pub decreases-cutting : goal.decreases-cutting
decreases-cutting l = length l.left
