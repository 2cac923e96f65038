-- The elements that a reader has read ahead.
use Rattle.std.specs.Prelude.{List, drop}
use Rattle.icu_table_entries.specs.Elements.{Element}
use Rattle.icu_element_reading.specs.declared.element_reader.ElementReader.{ElementReader}

-- the elements that stand ready
abbrev pub ready_elements : ElementReader → List Element
ready_elements r = drop r.next r.ready.elements.items
