use Rattle.icu_element_reading.proofs.CollationElementsLemmas.{HasSource-StillGives, CanRead-CanGive}
use Rattle.icu_element_reading.proofs.collation_elements.CollationElements.read_next.Goals as goal

pub take_next-requires : goal.take_next-requires
take_next-requires g c = CanRead-CanGive g.I.Iterator.can_next g.I.Iterator.remaining _ c.in-Reading.is c.requires

pub returns-in-Reading-clause-gives : goal.returns-in-Reading-clause-gives
returns-in-Reading-clause-gives g c = λ es h.
    c.take_next.ensures.gives es (HasSource-StillGives g.I.Iterator.next_gives c.args.self.now es c.in-Reading.is h)
