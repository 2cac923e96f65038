use Rattle.std.proofs.Common.{length, ap, arith}
use Rattle.icu_element_matches.specs.Texts.{still_unread}
use Rattle.icu_element_reading.specs.inner.Positions.{consumed_last}
use Rattle.icu_element_reading.specs.Reading.{reading_of}
use Rattle.icu_element_reading.proofs.ReaderLemmas.{on_ok}
use Rattle.icu_element_reading.proofs.StepLemmas.{Rests-step}
use Rattle.icu_element_reading.proofs.reader.stream.stream_step.Goals as goal

pub returns-clause-step : goal.returns-clause-step
returns-clause-step g c =
    on_ok c.read_char.result _ _ (λ taken. record { text = still_unread c.read_ahead.new.text; ahead = c.in_ok-read_ahead.ensures.text; taken = taken }) c.read_char.ensures

pub returns-clause-size : goal.returns-clause-size
returns-clause-size g c =
    let fits = (Rests-step (reading_of c.args.reading) (consumed_last c.args.at.now) c.args.c (still_unread c.read_ahead.new.text)).fits in
    on_ok c.read_char.result _ _ (λ taken. omega (arith, c.in_ok-read_ahead.ensures.size, ap length taken.rest, fits)) c.read_char.ensures
