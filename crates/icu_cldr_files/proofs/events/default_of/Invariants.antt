use Rattle.std.proofs.Common.{◌≡◌, length}
use Rattle.icu_cldr_files.specs.declared.collation_places.CollationPlace.TheVariants.{Outside}
use Rattle.icu_cldr_files.specs.CollationEvents.{default_from}
use Rattle.icu_cldr_files.proofs.events.default_of.Given as goal

abbrev pub invariant-reading : goal.invariant-reading
invariant-reading l = default_from l.place l.unread ≡ default_from Outside l.events

abbrev pub decreases-reading : goal.decreases-reading
decreases-reading l = length l.unread
