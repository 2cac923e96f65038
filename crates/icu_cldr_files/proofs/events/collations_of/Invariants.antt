use Rattle.std.proofs.Common.{◌≡◌, ◌++◌, length, map}
use Rattle.icu_cldr_files.specs.declared.collation_places.CollationPlace.TheVariants.{Outside}
use Rattle.icu_cldr_files.specs.CollationEvents.{collations_from, said_collation}
use Rattle.icu_cldr_files.proofs.events.collations_of.Given as goal

abbrev pub invariant-reading : goal.invariant-reading
invariant-reading l =
    map said_collation l.collations.items ++ collations_from l.place l.unread ≡ collations_from Outside l.events

abbrev pub decreases-reading : goal.decreases-reading
decreases-reading l = length l.unread
