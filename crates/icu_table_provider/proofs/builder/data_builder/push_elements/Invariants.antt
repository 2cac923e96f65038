-- The elements so far stand behind those that were there.
use Rattle.std.proofs.Common.{◌≡◌, ◌++◌, ◌≤◌, length, map, take}
use Rattle.icu_table_entries.specs.Elements.{element_of}
use Rattle.icu_table_provider.proofs.builder.data_builder.push_elements.Given as goal

abbrev pub invariant-loop-element : goal.invariant-loop-element
invariant-loop-element l =
    (map element_of l.ces.items ≡ map element_of l.fn.ces.items ++ take l.element-index l.elements)
    × (take l.count l.ces.items ≡ l.fn.ces.items)
    × (l.count ≤ length l.ces.items)
