use Rattle.std.proofs.Common.{◌≡◌, ℕ, ◌≤◌, List, ◌++◌, length, string_bytes}
use Rattle.std.specs.Str.{IsUtf8}
use Rattle.icu_cldr_files.specs.xml.SpelledParts.{Begins}
use Rattle.icu_cldr_files.specs.xml.CharacterReferences.{WritesValue}
use Rattle.icu_cldr_files.proofs.xml.references.value_of.Given as goal

abbrev pub invariant-reading : goal.invariant-reading
invariant-reading l = record {
  spelled : Begins (λ part. WritesValue part (string_bytes l.value)) l.text l.rest;
  within : length l.rest ≤ length l.text;
  utf8 : IsUtf8 l.rest;
}

abbrev pub decreases-reading : goal.decreases-reading
decreases-reading l = length l.rest
