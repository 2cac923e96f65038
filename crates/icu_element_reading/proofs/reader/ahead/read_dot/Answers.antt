use Rattle.icu_element_reading.proofs.ReaderLemmas.{on_ok}
use Rattle.icu_element_reading.proofs.ReadsAheadLemmas.{ReadsTo-weaker}
use Rattle.icu_element_reading.proofs.reader.ahead.read_dot.Goals as goal

pub returns-then-c-eq775-clause-text : goal.returns-then-c-eq775-clause-text
returns-then-c-eq775-clause-text g c =
    on_ok c.read_first.result _ _ (λ reads. ReadsTo-weaker g.I.Iterator.next_gives _ _ _ _ _ _ (λ begun _. begun) reads) c.read_first.ensures.text
