use Rattle.std.proofs.Common.{◌∷◌, [], subst}
use Rattle.icu_table_files.specs.fingerprint.FingerprintForms.{reordering_words}
use Rattle.icu_table_files.specs.fingerprint.inner.HandedWords.{HandsWords}
use Rattle.icu_table_files.proofs.fingerprint.WordHandings.{hands_more}
use Rattle.icu_table_files.proofs.fingerprint.data_form.put_present.Goals as goal

pub returns : goal.returns
returns c =
    let first = subst (λ w. HandsWords c.args.hasher.now c.put.new.hasher (w ∷ [])) c.from.ensures c.put.ensures in
    subst (λ r. HandsWords c.args.hasher.now c.put_u32s.new.hasher (reordering_words r)) c.parts-limit.ensures.value
    (hands_more _ _ _ _ _ first (hands_more _ _ _ _ _ c.put_bytes.ensures c.put_u32s.ensures))
