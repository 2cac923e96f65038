use Rattle.icu_element_reading.proofs.ReadsAheadLemmas.{ReadsTo-begun}
use Rattle.icu_element_reading.proofs.reader.ahead.read_first.Goals as goal

pub returns-clause-text : goal.returns-clause-text
returns-clause-text g c = ReadsTo-begun g.I.Iterator.next_gives _ _ _ _ _ c.in_ok-read_one.ensures.text
