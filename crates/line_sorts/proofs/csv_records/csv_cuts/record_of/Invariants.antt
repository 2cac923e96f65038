-- The bytes so far, and then the record from their place on, are the whole record.
use Rattle.std.proofs.Common.{◌≡◌, ◌++◌, drop, take}
use Rattle.line_sorts.specs.csv_records.CsvCuts.{record_from}
use Rattle.line_sorts.specs.declared.csv_records.record_place.RecordPlace.TheVariants.{FieldStart}
use Rattle.line_sorts.proofs.csv_records.csv_cuts.record_of.Given as goal

abbrev pub invariant-loop-index : goal.invariant-loop-index
invariant-loop-index l =
    take l.index l.text ++ record_from l.delimiter l.place (drop l.index l.text) ≡ record_from l.delimiter FieldStart l.text
