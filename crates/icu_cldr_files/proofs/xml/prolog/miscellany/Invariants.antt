use Rattle.std.proofs.Common.{length}
use Rattle.std.specs.Str.{IsUtf8}
use Rattle.icu_cldr_files.specs.xml.SpelledParts.{Begins}
use Rattle.icu_cldr_files.specs.xml.XmlDocuments.{IsMiscellany}
use Rattle.icu_cldr_files.proofs.xml.prolog.miscellany.Given as goal

abbrev pub invariant-reading : goal.invariant-reading
invariant-reading l = record {
  spelled : Begins IsMiscellany l.text l.rest;
  utf8 : IsUtf8 l.rest;
}

abbrev pub decreases-reading : goal.decreases-reading
decreases-reading l = length l.rest
