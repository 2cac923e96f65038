use Rattle.std.proofs.Common.{◌≡◌, ℕ, ◌<◌, get_or, true}
use Rattle.icu_cldr_files.specs.xml.XmlCharacters.{is_of}
use Rattle.icu_cldr_files.proofs.xml.spans.run_len.Given as goal

abbrev pub invariant-loop-i : goal.invariant-loop-i
invariant-loop-i l = record {
  each : (k : ℕ) → k < l.i → is_of l.class (get_or l.bytes k 0) ≡ true;
  ascii : (k : ℕ) → k < l.i → get_or l.bytes k 0 < 128;
}
