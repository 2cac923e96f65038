use Rattle.std.proofs.Common.{length, string_bytes}
use Rattle.icu_cldr_files.proofs.index_labels.LabelLemmas.{GoOnCharacters}
use Rattle.icu_cldr_files.proofs.index_labels.written_characters.read_characters.Given as goal

abbrev pub invariant-reading : goal.invariant-reading
invariant-reading l = GoOnCharacters (string_bytes l.label) l.unread l.text

abbrev pub decreases-reading : goal.decreases-reading
decreases-reading l = length l.unread
