use Rattle.std.proofs.Common.{◌≡◌, ◌++◌, length, string_bytes}
use Rattle.icu_cldr_files.specs.CollationEvents.{text_ahead}
use Rattle.icu_cldr_files.proofs.events.text_ahead.Given as goal

abbrev pub invariant-reading : goal.invariant-reading
invariant-reading l = string_bytes l.text ++ text_ahead l.unread ≡ text_ahead l.events

abbrev pub decreases-reading : goal.decreases-reading
decreases-reading l = length l.unread
