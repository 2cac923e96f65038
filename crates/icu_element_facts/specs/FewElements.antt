-- A list of three elements at most.
use Rattle.std.specs.Prelude.{List, take}
use Rattle.icu_table_entries.specs.Elements.{Element}
use Rattle.icu_element_facts.specs.declared.few_elements.FewElements.{FewElements}

-- the elements in it
unfoldable pub few_elements : FewElements → List Element
few_elements few = take few.count few.elements
