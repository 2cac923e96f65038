use Rattle.std.proofs.Common.{◌≡◌, ◌++◌, map, take}
use Rattle.icu_table_entries.specs.Elements.{of_primary}
use Rattle.icu_element_reading.proofs.reader.entry_step.push_number.Given as goal

abbrev pub invariant-loop-weight : goal.invariant-loop-weight
invariant-loop-weight l = l.list.elements.items ≡ l.fn.list.elements.items ++ map of_primary (take l.weight-index l.weight-items)
