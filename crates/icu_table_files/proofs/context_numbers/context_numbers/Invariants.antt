use Rattle.std.proofs.Common.{◌≡◌, take}
use Rattle.std.specs.List.{flat_map}
use Rattle.icu_table_files.specs.fingerprint.FingerprintForms.{context_words}
use Rattle.icu_table_files.proofs.context_numbers.context_numbers.Given as goal

abbrev pub invariant-loop-x : goal.invariant-loop-x
invariant-loop-x l = l.numbers.items ≡ flat_map context_words (take l.x-index l.contexts)
