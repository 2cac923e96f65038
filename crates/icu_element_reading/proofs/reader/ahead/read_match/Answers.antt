use Rattle.std.proofs.Common.{sym}
use Rattle.icu_table_data.specs.StoredData.{found_context}
use Rattle.icu_element_matches.specs.Texts.{still_unread}
use Rattle.icu_element_reading.proofs.AheadLemmas.{IsMappingRead, IsMappingRead-at, IsMappingRead-longer, IsMatchRead-mapping}
use Rattle.icu_element_reading.proofs.ReadsAheadLemmas.{ReadsTo-weaker, ReadsTo-then}
use Rattle.icu_element_reading.proofs.reader.ahead.read_match.Goals as goal

pub returns-clause-text : goal.returns-clause-text
returns-clause-text g c =
    let context = found_context c.args.context in
    let taken = c.in_ok-taken.taken in
    let steps = g.I.Iterator.next_gives in
    let mapping = IsMappingRead context taken in
    ReadsTo-weaker steps _ _ _ _ _ _ (IsMatchRead-mapping context taken _)
    (ReadsTo-then steps _ mapping _ _ _ _ (still_unread c.read_mappings.new.text) _ (λ more. IsMappingRead-longer context taken (still_unread c.read_mappings.new.text) more)
    (ReadsTo-weaker steps mapping _ _ _ _ _ (IsMappingRead-at context taken (still_unread c.read_mappings.new.text) (sym c.in_ok-taken.ensures.longest)) c.in_ok-taken.ensures.text) c.in_ok-read_starter.ensures.text)
