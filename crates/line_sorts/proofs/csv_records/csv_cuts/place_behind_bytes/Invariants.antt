-- The place behind all bytes is that behind those that are left.
use Rattle.std.proofs.Common.{◌≡◌, drop}
use Rattle.line_sorts.specs.csv_records.CsvCuts.{place_behind_bytes}
use Rattle.line_sorts.specs.declared.csv_records.record_place.RecordPlace.TheVariants.{FieldStart}
use Rattle.line_sorts.proofs.csv_records.csv_cuts.place_behind_bytes.Given as goal

abbrev pub invariant-loop-byte : goal.invariant-loop-byte
invariant-loop-byte l =
    place_behind_bytes l.delimiter l.place (drop l.byte-index l.bytes) ≡ place_behind_bytes l.delimiter FieldStart l.bytes
