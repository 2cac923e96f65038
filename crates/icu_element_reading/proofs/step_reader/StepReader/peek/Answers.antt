use Rattle.std.proofs.Common.{◌∙◌}
use Rattle.icu_element_reading.specs.inner.ReadsAhead.{IsBegun}
use Rattle.icu_element_reading.proofs.StepReaderLemmas.{read_on, first_of_all}
use Rattle.icu_element_reading.proofs.step_reader.StepReader.peek.Goals as goal

pub returns-clause-first : goal.returns-clause-first
returns-clause-first g c = λ before text h.
    let ahead = read_on g.I.Iterator.next_gives IsBegun _ _ _ _ text h.more c.in_ok-read_first.ensures.text h.source h.text_is in
    c.first.ensures ∙ first_of_all g.I.Iterator.next_gives _ _ text ahead

pub returns-clause-same : goal.returns-clause-same
returns-clause-same g c = λ before text h.
    let ahead = read_on g.I.Iterator.next_gives IsBegun _ _ _ _ text h.more c.in_ok-read_first.ensures.text h.source h.text_is in
    record { more = ahead.left; source = ahead.still; before_is = h.before_is; text_is = ahead.whole_is }
