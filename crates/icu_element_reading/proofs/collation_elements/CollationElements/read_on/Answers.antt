use Rattle.std.proofs.Common.{◌≡◌, [], None, refl, rules, ◌∙◌}
use Rattle.icu_element_reading.proofs.StreamLemmas.{taken_off, none_came, first_came, none_left_to_come, same_ready}
use Rattle.icu_element_reading.proofs.collation_elements.CollationElements.read_on.Goals as goal

pub returns-then-is_some-clause-gives : goal.returns-then-is_some-clause-gives
returns-then-is_some-clause-gives g c = λ es h.
    let steps = g.I.Iterator.next_gives in
    let now = c.steps.self in
    let before = same_ready steps now.reader.reading now.source now.reader.position _ [] es c.steps.invariant.none (c.steps.invariant.gives es h) in
    let took = rw c.in-Some.is at c.in_ok-c.ensures.text in
    let off = taken_off steps now.reader.reading now.source c.take_char.new.source now.reader.position (record now.reader.position { text = c.take_char.new.text }) es c.in-Some.c took refl before in
    first_came steps _ _ _ c.in_ok-next.next _ es (search rules) (c.in_ok-next.ensures.gives es off)

pub steps-preserved : goal.steps-preserved
steps-preserved g c = record {
  can = c.in_ok-next.ensures.ready;
  none = c.in_ok-next.ensures.none (search rules);
  gives = λ es h.
      let steps = g.I.Iterator.next_gives in
      let now = c.steps.self in
      let before = same_ready steps now.reader.reading now.source now.reader.position _ [] es c.steps.invariant.none (c.steps.invariant.gives es h) in
      let took = rw c.in-Some.is at c.in_ok-c.ensures.text in
      let off = taken_off steps now.reader.reading now.source c.take_char.new.source now.reader.position (record now.reader.position { text = c.take_char.new.text }) es c.in-Some.c took refl before in
      let none : c.in_ok-next.next ≡ None = search rules in
      rw none at (c.in_ok-next.ensures.gives es off);
  progress = c.in_ok-next.ensures.progress ∙ c.steps.invariant.progress;
}

pub returns-clause-gives : goal.returns-clause-gives
returns-clause-gives g c = λ es h.
    let steps = g.I.Iterator.next_gives in
    let now = c.steps.self in
    let before = same_ready steps now.reader.reading now.source now.reader.position _ [] es c.steps.invariant.none (c.steps.invariant.gives es h) in
    let took = rw c.in_default.is at c.in_ok-c.ensures.text in
    let done = none_came steps now.reader.reading now.source c.take_char.new.source now.reader.position (record now.reader.position { text = c.take_char.new.text }) es took before in
    none_left_to_come steps _ _ _ _ es c.steps.invariant.none done.0 done.1
