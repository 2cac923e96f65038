use Rattle.std.proofs.Common.{◌≡◌, ◌++◌, true, take}
use Rattle.std.specs.List.{list_all}
use Rattle.icu_element_reading.specs.boundaries.Alone.{elements_by_char, is_alone}
use Rattle.icu_element_facts.specs.FewElements.{few_elements}
use Rattle.icu_element_reading.specs.boundaries.BoundaryTables.{boundary_reading}
use Rattle.icu_element_facts.proofs.alone.with_chars.Given as goal

abbrev pub invariant-loop-c : goal.invariant-loop-c
invariant-loop-c l =
    (list_all (is_alone (boundary_reading l.places)) (take l.c-index l.chars) ≡ true)
    × (few_elements l.found ≡ few_elements l.fn.few ++ elements_by_char (boundary_reading l.places).tables (take l.c-index l.chars))
