use Rattle.std.proofs.Common.{◌∷◌, [], ◌∙◌, ap, subst}
use Rattle.icu_table_files.specs.fingerprint.FingerprintForms.{bit_word, case_word, group_word, handling_word, strength_word}
use Rattle.icu_table_files.specs.fingerprint.inner.HandedWords.{HandsWords}
use Rattle.icu_table_files.proofs.fingerprint.WordHandings.{hands_more}
use Rattle.icu_table_files.proofs.fingerprint.fingerprint_of.put_settings.Goals as goal

pub returns : goal.returns
returns c =
    let one = c.strength_number.ensures ∙ ap strength_word c.strength.ensures in
    let two = c.handling_number.ensures ∙ ap handling_word c.alternate_handling.ensures in
    let three = c.group_number.ensures ∙ ap group_word c.max_variable.ensures in
    let four = c.case_number.ensures ∙ ap case_word c.case_first.ensures in
    let five = c.bit_number.ensures ∙ ap bit_word c.case_level.ensures in
    let six = c.bit_number-2.ensures ∙ ap bit_word c.numeric.ensures in
    let seven = c.bit_number-3.ensures ∙ ap bit_word c.backward_second_level.ensures in
    subst (HandsWords c.args.hasher.now c.put-7.new.hasher) (λ i. one i ∷ two i ∷ three i ∷ four i ∷ five i ∷ six i ∷ seven i ∷ [])
    (hands_more _ _ _ _ _ c.put.ensures (hands_more _ _ _ _ _ c.put-2.ensures (hands_more _ _ _ _ _ c.put-3.ensures (hands_more _ _ _ _ _ c.put-4.ensures
    (hands_more _ _ _ _ _ c.put-5.ensures (hands_more _ _ _ _ _ c.put-6.ensures c.put-7.ensures))))))
