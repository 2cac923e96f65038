use Rattle.std.proofs.Common.{◌≡◌, length}
use Rattle.icu_cldr_files.specs.CollationEvents.{rules_ahead}
use Rattle.icu_cldr_files.proofs.events.rules_ahead.Given as goal

abbrev pub invariant-reading : goal.invariant-reading
invariant-reading l = rules_ahead l.unread ≡ rules_ahead l.events

abbrev pub decreases-reading : goal.decreases-reading
decreases-reading l = length l.unread
