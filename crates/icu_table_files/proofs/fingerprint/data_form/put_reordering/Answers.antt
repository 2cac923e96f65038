use Rattle.std.proofs.Common.{subst, sym}
use Rattle.std.specs.Prelude.{option_map}
use Rattle.icu_table_files.specs.fingerprint.FingerprintForms.{optional, reordering_words}
use Rattle.icu_table_files.specs.fingerprint.inner.HandedWords.{HandsWords}
use Rattle.icu_table_files.proofs.fingerprint.WordHandings.{hands_more}
use Rattle.icu_table_provider.specs.StoredTables.{reordering_of}
use Rattle.icu_table_files.proofs.fingerprint.data_form.put_reordering.Goals as goal

pub returns-in-Some : goal.returns-in-Some
returns-in-Some c =
    subst (λ r. HandsWords c.args.hasher.now c.put_present.new.hasher (optional reordering_words (option_map reordering_of r))) (sym c.in-Some.is)
    (hands_more _ _ _ _ _ c.put.ensures c.put_present.ensures)
