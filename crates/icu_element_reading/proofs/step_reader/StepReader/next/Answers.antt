use Rattle.std.proofs.Common.{length, refl, ap, arith}
use Rattle.icu_element_matches.specs.Texts.{still_unread}
use Rattle.icu_element_reading.specs.inner.Positions.{consumed_last}
use Rattle.icu_element_reading.specs.inner.ReadsAhead.{IsBegun}
use Rattle.icu_element_reading.specs.StepReaders.{reading_in}
use Rattle.icu_element_reading.proofs.StepLemmas.{Rests-step}
use Rattle.icu_element_reading.proofs.StepReaderLemmas.{read_on, none_came, TakesStep-read}
use Rattle.icu_element_reading.proofs.step_reader.StepReader.next.Goals as goal

pub returns-in_default-clause-step : goal.returns-in_default-clause-step
returns-in_default-clause-step g c = λ before text h.
    none_came g.I.Iterator.next_gives _ _ text (read_on g.I.Iterator.next_gives IsBegun _ _ _ _ text h.more c.in_ok-read_first.ensures.text h.source h.text_is)
    (c.in_default.ensures.ends.0 refl)

pub overflow_sub-result : goal.overflow_sub-result
overflow_sub-result g c =
    let fits = (Rests-step (reading_in c.args.self.now) (consumed_last c.args.self.now.position) c.in-Some.c (still_unread c.read_ahead.new.text)).fits in
    omega (arith, fits, ap length c.in_ok-read_char.ensures.rest, c.len-there.ensures, c.len-left.ensures)

pub returns-clause-step : goal.returns-clause-step
returns-clause-step g c = λ before text h.
    TakesStep-read g.I.Iterator.next_gives c.args.self.now _ c.in-Some.c _ _ _ _ _ _ before text h c.in_ok-read_first.ensures.text c.in-Some.ensures.taken
    c.in_ok-read_ahead.ensures.text c.clear.ensures.items c.in_ok-read_char.ensures (omega (arith, c.len-there.ensures, c.len-left.ensures))

pub returns-clause-shorter : goal.returns-clause-shorter
returns-clause-shorter g c = λ _.
    let fits = (Rests-step (reading_in c.args.self.now) (consumed_last c.args.self.now.position) c.in-Some.c (still_unread c.read_ahead.new.text)).fits in
    omega (arith, c.in_ok-read_first.ensures.size, c.in_ok-read_ahead.ensures.size, ap length c.in-Some.ensures.taken, ap length c.in_ok-read_char.ensures.rest, fits)
