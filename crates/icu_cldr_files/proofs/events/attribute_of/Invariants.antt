use Rattle.std.proofs.Common.{◌≡◌, length}
use Rattle.icu_cldr_files.specs.CollationEvents.{attribute_of}
use Rattle.icu_cldr_files.proofs.events.attribute_of.Given as goal

abbrev pub invariant-reading : goal.invariant-reading
invariant-reading l = attribute_of l.name l.unread ≡ attribute_of l.name l.attributes

abbrev pub decreases-reading : goal.decreases-reading
decreases-reading l = length l.unread
