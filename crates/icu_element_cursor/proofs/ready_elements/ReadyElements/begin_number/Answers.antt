use Rattle.std.proofs.Common.{◌++◌, List, sym, ap, ◌∙◌}
use Rattle.icu_table_entries.specs.Elements.{Element}
use Rattle.icu_text_decomposition.specs.short_text.ArrayTexts.{array_unread}
use Rattle.icu_element_reading.specs.steady_elements.SteadyElements.{elements_left}
use Rattle.icu_element_cursor.proofs.ReadyLemmas.{both_empty}
use Rattle.icu_element_cursor.proofs.ready_elements.ReadyElements.begin_number.Goals as goal

pub take_of_piece-requires : goal.take_of_piece-requires
take_of_piece-requires c = (both_empty _ _ c.requires).0

pub returns : goal.returns
returns c =
    sym c.give_number.ensures
    ∙ sym (ap (λ (es : List Element). es ++ elements_left array_unread c.give_number.new.piece) (both_empty _ _ c.requires).0)
    ∙ c.take_of_piece.ensures.next
