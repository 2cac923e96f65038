use Rattle.icu_element_cursor.specs.Cursors.{gives_with}
use Rattle.icu_element_cursor.proofs.CursorLemmas.{all_read}
use Rattle.icu_element_cursor.proofs.cursor.ElementCursor+T+CharElements.is_at_end.Goals as goal

pub returns-in-None : goal.returns-in-None
unfolding gives_with
returns-in-None g c = λ none. all_read _ _ _ (c.is_empty.ensures none) _ c.in-None.ensures
