use Rattle.std.proofs.Common.{refl, ap, ◌∙◌, unwrap_or}
use Rattle.icu_element_reading.specs.CollationElements.{rest_of}
use Rattle.icu_element_reading.proofs.CollationElementsLemmas.{StillGives-source, CanGive-reading, CanGive-refused}
use Rattle.icu_element_reading.proofs.collation_elements.CollationElements.next.Goals as goal

pub returns-in-Err-clause-again : goal.returns-in-Err-clause-again
returns-in-Err-clause-again g c = CanGive-refused _ _ _ refl

pub returns-in-Ok-clause-again : goal.returns-in-Ok-clause-again
returns-in-Ok-clause-again g c = CanGive-reading g.I.Iterator.can_next g.I.Iterator.remaining c.read_next.new.self c.in-Ok.ensures.is_reading c.in-Ok.ensures.ready

pub returns-in-Ok-clause-gives : goal.returns-in-Ok-clause-gives
returns-in-Ok-clause-gives g c = λ es h.
    let given = c.in-Ok.ensures.gives es h in (
      c.unwrap_or.ensures ∙ ap (unwrap_or c.in-Ok.next) c.default.ensures ∙ given.0,
      StillGives-source g.I.Iterator.next_gives c.read_next.new.self (rest_of es) c.in-Ok.ensures.is_reading given.1,
    )
