use Rattle.std.proofs.Common.{◌∷◌, length, take}
use Rattle.std.specs.List.{flat_map}
use Rattle.icu_table_files.specs.fingerprint.FingerprintForms.{mapping_words}
use Rattle.icu_table_files.specs.fingerprint.inner.HandedWords.{HandsWords}
use Rattle.icu_table_files.proofs.fingerprint.form_words.put_mappings.Given as goal

abbrev pub invariant-loop-x : goal.invariant-loop-x
invariant-loop-x l = HandsWords l.fn.hasher l.hasher (length l.list ∷ flat_map mapping_words (take l.x-index l.list))
