use Rattle.std.proofs.Common.{◌++◌, option_to_list, ap, sym, ◌∙◌}
use Rattle.icu_element_cursor.specs.Cursors.{cursor_gives, gives_with}
use Rattle.icu_element_cursor.proofs.CursorLemmas.{all_read}
use Rattle.icu_element_cursor.proofs.cursor.ElementCursor+T.read_next.Goals as goal

pub returns-in_default-split_first_char-clause-end : goal.returns-in_default-split_first_char-clause-end
unfolding gives_with
returns-in_default-split_first_char-clause-end g c =
    let gives = cursor_gives g.T.EncodedText.text c.take_ready.new.self in
    λ _.
    sym c.turns.invariant.gives ∙ c.take_ready.ensures.next ∙ ap (λ o. option_to_list o ++ gives) c.in_default.is
    ∙ all_read _ _ _ (c.take_ready.ensures.end c.in_default.is) _ c.in_default-split_first_char.ensures
