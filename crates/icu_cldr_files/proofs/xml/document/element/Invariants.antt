use Rattle.std.proofs.Common.{List, ◌++◌, length, ◌≤◌}
use Rattle.std.specs.Str.{IsUtf8}
use Rattle.icu_cldr_files.specs.declared.xml.event.Event.{Event}
use Rattle.icu_cldr_files.specs.xml.SpelledParts.{Begins, SpellsInParts}
use Rattle.icu_cldr_files.specs.xml.XmlEvents.{Close, AreElement, started_names}
use Rattle.icu_cldr_files.specs.xml.XmlMarkup.{SpellsContent}
use Rattle.icu_cldr_files.proofs.xml.document.element.Given as goal

abbrev pub invariant-reading : goal.invariant-reading
invariant-reading l = record {
  content : Begins (λ part. SpellsInParts SpellsContent part l.events.items) l.text l.rest;
  element : (more : List Event) → Close (started_names l.started.items) more → AreElement (l.events.items ++ more);
  within : length l.rest ≤ length l.text;
  utf8 : IsUtf8 l.rest;
}

abbrev pub decreases-reading : goal.decreases-reading
decreases-reading l = length l.rest
