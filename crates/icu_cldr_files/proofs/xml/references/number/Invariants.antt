use Rattle.std.proofs.Common.{◌≡◌, ◌^◌, ◌<◌, drop}
use Rattle.icu_cldr_files.specs.xml.CharacterReferences.{number_after}
use Rattle.icu_cldr_files.proofs.xml.references.number.Given as goal

abbrev pub invariant-loop-byte : goal.invariant-loop-byte
invariant-loop-byte l = record {
  number : number_after l.base l.number (drop l.byte-index l.digits) ≡ number_after l.base 0 l.digits;
  bound : l.number < 16 ^ l.byte-index;
}
