use Rattle.std.proofs.Common.{◌≡◌, ◌++◌, length, string_bytes}
use Rattle.icu_cldr_files.specs.index_labels.IndexSets.{text_before_tag}
use Rattle.icu_cldr_files.proofs.index_labels.index_events.text_before_tag.Given as goal

abbrev pub invariant-reading : goal.invariant-reading
invariant-reading l = string_bytes l.text ++ text_before_tag l.unread ≡ text_before_tag l.events

abbrev pub decreases-reading : goal.decreases-reading
decreases-reading l = length l.unread
