use Rattle.std.proofs.Common.{length, map, string_bytes}
use Rattle.icu_cldr_files.proofs.index_labels.LabelLemmas.{GoOnLabels}
use Rattle.icu_cldr_files.proofs.index_labels.label_set.read_labels.Given as goal

abbrev pub invariant-reading : goal.invariant-reading
invariant-reading l = GoOnLabels (map string_bytes l.labels.items) l.unread l.text

abbrev pub decreases-reading : goal.decreases-reading
decreases-reading l = length l.unread
