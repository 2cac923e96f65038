-- All elements that were read and not given yet.
use Rattle.std.specs.Prelude.{List, ◌++◌}
use Rattle.icu_table_entries.specs.Elements.{Element}
use Rattle.icu_text_decomposition.specs.short_text.ArrayTexts.{array_unread}
use Rattle.icu_element_reading.specs.steady_elements.SteadyElements.{elements_left}
use Rattle.icu_element_cursor.specs.declared.ready_elements.ReadyElements.{ReadyElements}
use Rattle.icu_element_cursor.specs.inner.Ready.{elements_ready}

-- those of a character, and those of a piece
abbrev pub all_ready : ReadyElements → List Element
all_ready r = elements_ready r.few ++ elements_left array_unread r.piece
