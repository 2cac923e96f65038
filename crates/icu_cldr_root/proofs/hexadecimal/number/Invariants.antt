use Rattle.std.proofs.Common.{◌≡◌, ◌^◌, ◌<◌, drop}
use Rattle.icu_cldr_root.specs.HexDigits.{number_behind}
use Rattle.icu_cldr_root.proofs.hexadecimal.number.Given as goal

abbrev pub invariant-loop-byte : goal.invariant-loop-byte
invariant-loop-byte l = record {
  number : number_behind l.number (drop l.byte-index l.word) ≡ number_behind 0 l.word;
  bound : l.number < 16 ^ l.byte-index;
}
