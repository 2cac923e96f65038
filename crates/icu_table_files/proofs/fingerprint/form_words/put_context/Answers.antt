use Rattle.std.proofs.Common.{◌∷◌, [], subst}
use Rattle.icu_table_files.specs.fingerprint.inner.HandedWords.{HandsWords}
use Rattle.icu_table_files.proofs.fingerprint.WordHandings.{hands_more}
use Rattle.icu_table_files.proofs.fingerprint.form_words.put_context.Goals as goal

pub returns : goal.returns
returns c =
    subst (HandsWords c.args.hasher.now c.put-3.new.hasher) (λ i. c.from.ensures i ∷ c.from-2.ensures i ∷ c.from-3.ensures i ∷ [])
    (hands_more _ _ _ _ _ c.put.ensures (hands_more _ _ _ _ _ c.put-2.ensures c.put-3.ensures))
