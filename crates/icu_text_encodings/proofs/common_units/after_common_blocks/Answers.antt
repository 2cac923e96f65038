-- A block more that both have goes to the common beginning.
use Rattle.std.proofs.Common.{◌≡◌, ap, ◌∙◌, ◌++◌, sym, drop, take-append-drop}
use Rattle.icu_text_encodings.proofs.UnitCutLemmas.{longer_beginning, same_words}
use Rattle.icu_text_encodings.proofs.common_units.after_common_blocks.Goals as goal

pub wide-preserved : goal.wide-preserved
wide-preserved c =
    let left = c.wide.left_rest.now in
    let right = c.wide.right_rest.now in
    let first = c.in-Some.ensures.cases in
    let second = c.in-Some-split_first_chunk.ensures.cases in
    let word = c.in-Some.left_block.now in
    let left_whole : left ≡ word ++ c.in-Some.left_next.now = sym (take-append-drop 64 left) ∙ ap (λ w. w ++ drop 64 left) (sym first.0) ∙ ap (λ l. word ++ l) (sym first.1) in
    let same : word ≡ c.in-Some-split_first_chunk.right_block.now = same_words _ _ (sym c.ne.ensures ∙ c.if-ne.false) in
    let right_whole : right ≡ word ++ c.in-Some-split_first_chunk.right_next.now =
    sym (take-append-drop 64 right) ∙ ap (λ w. w ++ drop 64 right) (sym second.0 ∙ sym same) ∙ ap (λ l. word ++ l) (sym second.1) in
    longer_beginning _ _ left right word _ _ c.wide.invariant left_whole right_whole
