use Rattle.std.proofs.Common.{rules}
use Rattle.icu_element_reading.specs.Reading.{reading_of}
use Rattle.icu_element_reading.proofs.AheadLemmas.{IsRunRead-none}
use Rattle.icu_element_reading.proofs.ReaderLemmas.{on_ok}
use Rattle.icu_element_reading.proofs.ReadsAheadLemmas.{ReadsTo-none, ReadsTo-weaker}
use Rattle.icu_element_reading.proofs.reader.ahead.read_number.Goals as goal

pub returns-then-not-begins_number-clause-text : goal.returns-then-not-begins_number-clause-text
returns-then-not-begins_number-clause-text g c =
    ReadsTo-none g.I.Iterator.next_gives _ _ _ (IsRunRead-none (reading_of c.args.reading) c.args.ce32 _ (search rules))

pub returns-clause-text : goal.returns-clause-text
returns-clause-text g c =
    on_ok c.read_run.result _ _ (λ reads. ReadsTo-weaker g.I.Iterator.next_gives _ _ _ _ _ _ (λ ended _ _. ended) reads) c.read_run.ensures.text
