use Rattle.std.proofs.Common.{◌≡◌, None, rules}
use Rattle.icu_element_reading.proofs.StreamLemmas.{first_came, listed, none_stands}
use Rattle.icu_element_reading.proofs.collation_elements.CollationElements.take_next.Goals as goal

pub returns-then-is_some-clause-gives : goal.returns-then-is_some-clause-gives
returns-then-is_some-clause-gives g c = λ es h.
    first_came g.I.Iterator.next_gives _ _ _ c.take_ready-ready.result _ es (search rules)
    (listed g.I.Iterator.next_gives es c.args.self.now.source c.args.self.now.reader c.take_ready-ready.new.self c.take_ready-ready.result h c.take_ready-ready.ensures.next c.take_ready-ready.ensures.position c.take_ready-ready.ensures.reading)

pub read_on-requires-clause-none_ready : goal.read_on-requires-clause-none_ready
read_on-requires-clause-none_ready g c =
    none_stands c.args.self.now.reader c.take_ready-ready.new.self c.take_ready-ready.result c.take_ready-ready.ensures.next c.take_ready-ready.ensures.end (search rules)

pub returns-clause-gives : goal.returns-clause-gives
returns-clause-gives g c = λ es h.
    let none : c.take_ready-ready.result ≡ None = search rules in
    c.read_on.ensures.gives es
    (rw none at (listed g.I.Iterator.next_gives es c.args.self.now.source c.args.self.now.reader c.take_ready-ready.new.self c.take_ready-ready.result h c.take_ready-ready.ensures.next c.take_ready-ready.ensures.position c.take_ready-ready.ensures.reading))
