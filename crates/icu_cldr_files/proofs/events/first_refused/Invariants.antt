use Rattle.std.proofs.Common.{◌≡◌, ◌≤◌, length}
use Rattle.icu_cldr_files.specs.declared.collation_places.CollationPlace.TheVariants.{Outside}
use Rattle.icu_cldr_files.specs.CollationEvents.{first_refused}
use Rattle.icu_cldr_files.proofs.events.first_refused.Given as goal

abbrev pub invariant-reading : goal.invariant-reading
invariant-reading l = record {
  refused : first_refused l.place l.unread ≡ first_refused Outside l.events;
  within : length l.unread ≤ length l.events;
}

abbrev pub decreases-reading : goal.decreases-reading
decreases-reading l = length l.unread
