-- What stands behind the record is the same from each place in it.
use Rattle.std.proofs.Common.{◌≡◌, length}
use Rattle.line_sorts.specs.csv_records.CsvCuts.{behind_from}
use Rattle.line_sorts.specs.declared.csv_records.record_place.RecordPlace.TheVariants.{FieldStart}
use Rattle.line_sorts.proofs.csv_records.csv_cuts.behind_record.Given as goal

abbrev pub invariant-reading : goal.invariant-reading
invariant-reading l = behind_from l.delimiter l.place l.left ≡ behind_from l.delimiter FieldStart l.fn.text

abbrev pub decreases-reading : goal.decreases-reading
decreases-reading l = length l.left
