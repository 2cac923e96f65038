use Rattle.std.proofs.Common.{◌∷◌, length, take}
use Rattle.icu_table_files.specs.fingerprint.inner.HandedWords.{HandsWords}
use Rattle.icu_table_files.proofs.fingerprint.form_words.put_u64s.Given as goal

abbrev pub invariant-loop-x : goal.invariant-loop-x
invariant-loop-x l = HandsWords l.fn.hasher l.hasher (length l.list ∷ take l.x-index l.list)
