-- The facts of an own character with one element.
use Rattle.icu_element_reading.specs.boundaries.BoundaryTables.{boundary_reading}
use Rattle.icu_element_facts.proofs.read_char.own_facts.Goals as goal

pub returns-in-Some : goal.returns-in-Some
returns-in-Some c = λ own. c.facts_of_one.ensures (boundary_reading c.args.places.now) c.args.c own c.in-Some.ensures
