use Rattle.std.proofs.Common.{◌≡◌, length}
use Rattle.icu_cldr_files.specs.index_labels.IndexSets.{index_set_from}
use Rattle.icu_cldr_files.proofs.index_labels.index_events.index_set_of.Given as goal

abbrev pub invariant-reading : goal.invariant-reading
invariant-reading l = index_set_from l.unread ≡ index_set_from l.events

abbrev pub decreases-reading : goal.decreases-reading
decreases-reading l = length l.unread
