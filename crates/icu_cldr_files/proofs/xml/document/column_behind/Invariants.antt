use Rattle.std.proofs.Common.{◌≡◌, ◌+◌, ◌<◌, ◌≤◌, drop}
use Rattle.icu_cldr_files.specs.xml.XmlErrors.{column_from}
use Rattle.icu_cldr_files.proofs.xml.document.column_behind.Given as goal

abbrev pub invariant-loop-byte : goal.invariant-loop-byte
invariant-loop-byte l = record {
  column : column_from l.column (drop l.byte-index l.bytes) ≡ column_from 1 l.bytes;
  some : 0 < l.column;
  bound : l.column ≤ l.byte-index + 1;
}
