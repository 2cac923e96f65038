use Rattle.std.proofs.Common.{◌≡◌, ◌+◌, length}
use Rattle.icu_element_facts.specs.KeptChars.{AreFactsFrom}
use Rattle.icu_element_reading.specs.boundaries.BoundaryTables.{boundary_reading}
use Rattle.icu_element_facts.proofs.facts_table.facts_from.Given as goal

abbrev pub invariant-loop-code : goal.invariant-loop-code
invariant-loop-code l = (l.first + length l.kept_facts.items ≡ l.code) × AreFactsFrom (boundary_reading l.places) l.first l.kept_facts.items
