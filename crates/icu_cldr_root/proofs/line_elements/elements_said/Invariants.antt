use Rattle.std.proofs.Common.{◌≡◌, Some, map, take}
use Rattle.icu_cldr_root.specs.Ideographs.{primary_in}
use Rattle.icu_cldr_root.specs.LineElements.{element_said}
use Rattle.icu_cldr_root.proofs.line_elements.elements_said.Given as goal

-- the elements so far
abbrev pub invariant-loop-element : goal.invariant-loop-element
invariant-loop-element l = map (element_said (primary_in l.ideographs)) (take l.element-index l.read) ≡ map Some l.elements.items
