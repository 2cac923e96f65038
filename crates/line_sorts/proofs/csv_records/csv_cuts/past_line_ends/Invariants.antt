-- What is left comes to the same.
use Rattle.std.proofs.Common.{◌≡◌, length}
use Rattle.line_sorts.specs.csv_records.CsvCuts.{past_line_ends}
use Rattle.line_sorts.proofs.csv_records.csv_cuts.past_line_ends.Given as goal

abbrev pub invariant-passing : goal.invariant-passing
invariant-passing l = past_line_ends l.left ≡ past_line_ends l.fn.text

abbrev pub decreases-passing : goal.decreases-passing
decreases-passing l = length l.left
