-- The bytes that the words have in common go to the common beginning.
use Rattle.icu_text_encodings.proofs.UnitCutLemmas.{beginning_goes_on}
use Rattle.icu_text_encodings.proofs.WordLemmas.{word_head}
use Rattle.icu_text_encodings.proofs.common_units.after_common_words.Goals as goal

pub words-preserved : goal.words-preserved
words-preserved c =
    let count = c.common_in_word-count in
    beginning_goes_on _ _ _ _ _ _ c.words.invariant
    (word_head count.result c.words.left_rest.now c.words.right_rest.now _ _ _ _ c.in-Some.ensures.cases.0 c.in-Some-split_first_chunk.ensures.cases.0
    count.ensures.bound count.ensures.beginning c.split_at.ensures.back c.split_at-in-Some.ensures.back)

pub returns-then-count-lt8 : goal.returns-then-count-lt8
returns-then-count-lt8 c =
    let count = c.common_in_word-count in
    beginning_goes_on _ _ _ _ _ _ c.words.invariant
    (word_head count.result c.words.left_rest.now c.words.right_rest.now _ _ _ _ c.in-Some.ensures.cases.0 c.in-Some-split_first_chunk.ensures.cases.0
    count.ensures.bound count.ensures.beginning c.split_at.ensures.back c.split_at-in-Some.ensures.back)
