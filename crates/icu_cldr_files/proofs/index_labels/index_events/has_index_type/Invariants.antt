use Rattle.std.proofs.Common.{◌≡◌, length}
use Rattle.icu_cldr_files.specs.index_labels.IndexSets.{has_index_type}
use Rattle.icu_cldr_files.proofs.index_labels.index_events.has_index_type.Given as goal

abbrev pub invariant-reading : goal.invariant-reading
invariant-reading l = has_index_type l.unread ≡ has_index_type l.attributes

abbrev pub decreases-reading : goal.decreases-reading
decreases-reading l = length l.unread
