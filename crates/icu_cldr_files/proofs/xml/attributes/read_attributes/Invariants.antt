use Rattle.std.proofs.Common.{List, ◌++◌, length, ◌≤◌}
use Rattle.std.specs.Str.{IsUtf8}
use Rattle.icu_cldr_files.specs.xml.SpelledParts.{Begins, SpellsInParts}
use Rattle.icu_cldr_files.specs.xml.XmlEvents.{AreNewAfter, AreDistinct}
use Rattle.icu_cldr_files.specs.xml.XmlMarkup.{SpellsAttribute}
use Rattle.icu_cldr_files.specs.declared.xml.event.Attribute.{Attribute}
use Rattle.icu_cldr_files.proofs.xml.attributes.read_attributes.Given as goal

abbrev pub invariant-reading : goal.invariant-reading
invariant-reading l = record {
  spelled : Begins (λ part. SpellsInParts SpellsAttribute part l.attributes.items) l.text l.rest;
  distinct : (more : List Attribute) → AreNewAfter l.attributes.items more → AreDistinct (l.attributes.items ++ more);
  within : length l.rest ≤ length l.text;
  utf8 : IsUtf8 l.rest;
}

abbrev pub decreases-reading : goal.decreases-reading
decreases-reading l = length l.rest
