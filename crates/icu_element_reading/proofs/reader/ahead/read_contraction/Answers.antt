use Rattle.icu_table_data.specs.StoredData.{found_context}
use Rattle.icu_element_reading.specs.Reading.{reading_of}
use Rattle.icu_element_reading.proofs.AheadLemmas.{IsMatchRead-longer, HasWholeContraction-mapping, HasWholeContraction-run}
use Rattle.icu_element_reading.proofs.ReaderLemmas.{on_ok}
use Rattle.icu_element_reading.proofs.ReadsAheadLemmas.{ReadsTo-weaker, ReadsTo-then}
use Rattle.icu_element_reading.proofs.reader.ahead.read_contraction.Goals as goal

pub returns-then-taken-gt0-clause-text : goal.returns-then-taken-gt0-clause-text
returns-then-taken-gt0-clause-text g c =
    ReadsTo-weaker g.I.Iterator.next_gives _ _ _ _ _ _
    (HasWholeContraction-mapping (reading_of c.args.reading) (found_context c.args.context) c.in_ok-taken.taken _ c.if-taken-gt0.true)
    c.in_ok-taken.ensures.text

pub returns-clause-text : goal.returns-clause-text
returns-clause-text g c =
    let steps = g.I.Iterator.next_gives in
    let context = found_context c.args.context in
    on_ok c.read_number.result _ _
    (λ reads.
    ReadsTo-weaker steps _ _ _ _ _ _ (HasWholeContraction-run (reading_of c.args.reading) context c.in_ok-taken.taken _)
    (ReadsTo-then steps _ _ _ _ _ _ _ _ (λ more. IsMatchRead-longer context c.in_ok-taken.taken _ more) c.in_ok-taken.ensures.text (rw c.default.ensures at reads)))
    c.read_number.ensures.text
