-- A word or a unit more that both have goes to the common beginning.
use Rattle.std.proofs.Common.{◌≡◌, ap, ◌∙◌, ◌∷◌, ◌++◌, [], sym, drop, take-append-drop}
use Rattle.icu_text_encodings.proofs.UnitCutLemmas.{rest_alike, none_left, longer_beginning, same_words}
use Rattle.icu_text_encodings.proofs.common_units.common_units16.Goals as goal

pub words-preserved : goal.words-preserved
words-preserved c =
    let left = c.words.left_rest.now in
    let right = c.words.right_rest.now in
    let first = c.in-Some.ensures.cases in
    let second = c.in-Some-split_first_chunk.ensures.cases in
    let word = c.in-Some.left_word.now in
    let left_whole : left ≡ word ++ c.in-Some.left_next.now = sym (take-append-drop 4 left) ∙ ap (λ w. w ++ drop 4 left) (sym first.0) ∙ ap (λ l. word ++ l) (sym first.1) in
    let same : word ≡ c.in-Some-split_first_chunk.right_word.now = same_words _ _ (sym c.ne.ensures ∙ c.if-ne.false) in
    let right_whole : right ≡ word ++ c.in-Some-split_first_chunk.right_next.now =
    sym (take-append-drop 4 right) ∙ ap (λ w. w ++ drop 4 right) (sym second.0 ∙ sym same) ∙ ap (λ l. word ++ l) (sym second.1) in
    longer_beginning _ _ left right word _ _ c.words.invariant left_whole right_whole

pub units-preserved : goal.units-preserved
units-preserved c =
    let both = c.in-Some-after_common_unit.ensures in
    longer_beginning _ _ _ _ (both.0 ∷ []) _ _ c.units.invariant both.1 both.2

pub returns-clause-same : goal.returns-clause-same
returns-clause-same c = λ e.
    let empty = c.in_default-after_common_unit.ensures (rest_alike _ _ _ _ c.units.invariant e) in
    none_left c.args.left.now c.units.left_rest.now empty
