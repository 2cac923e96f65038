-- An own character has the facts that its entry shows.
use Rattle.icu_element_reading.specs.boundaries.BoundaryTables.{boundary_reading}
use Rattle.icu_element_facts.proofs.facts_table.KeptFacts.work_out.Goals as goal

pub returns-in-Own : goal.returns-in-Own
returns-in-Own c = λ are. c.own_facts.ensures (c.in-Own.ensures.known (boundary_reading c.args.places.now) are)
