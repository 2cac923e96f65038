use Rattle.icu_element_reading.specs.inner.Positions.{consumed_last, unread_at}
use Rattle.icu_element_reading.specs.Reading.{reading_of}
use Rattle.icu_element_reading.proofs.ReaderLemmas.{step_elements, step_shorter}
use Rattle.icu_element_reading.proofs.reader.step.read_step.Goals as goal

pub returns-in_ok-read_char-in-Some-clause-elements : goal.returns-in_ok-read_char-in-Some-clause-elements
returns-in_ok-read_char-in-Some-clause-elements c =
    step_elements (reading_of c.args.reading) (consumed_last c.args.at.now) c.in-Some.c _ (unread_at c.args.at.now) _ _ _ c.in-Some.ensures.taken c.in_ok-read_char-in-Some.ensures

pub returns-in_ok-read_char-in-Some-clause-shorter : goal.returns-in_ok-read_char-in-Some-clause-shorter
returns-in_ok-read_char-in-Some-clause-shorter c =
    step_shorter (reading_of c.args.reading) (consumed_last c.args.at.now) c.in-Some.c _ (unread_at c.args.at.now) _ _ _ c.in-Some.ensures.taken c.in_ok-read_char-in-Some.ensures
