use Rattle.std.proofs.Common.{◌≡◌, ◌++◌, length}
use Rattle.std.specs.List.{flat_map}
use Rattle.icu_table_files.specs.fingerprint.FingerprintForms.{context_words}
use Rattle.icu_table_files.proofs.context_numbers.contexts_of_numbers.Given as goal

abbrev pub invariant-reading : goal.invariant-reading
invariant-reading l = flat_map context_words l.contexts.items ++ l.rest ≡ l.numbers

abbrev pub decreases-reading : goal.decreases-reading
decreases-reading l = length l.rest
