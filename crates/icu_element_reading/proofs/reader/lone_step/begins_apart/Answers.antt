use Rattle.std.proofs.Common.{◌≡◌, rules}
use Rattle.std.specs.Prelude.{slice_get, Some}
use Rattle.icu_table_data.specs.StoredData.{found_context}
use Rattle.icu_element_matches.specs.Texts.{still_unread}
use Rattle.icu_element_reading.proofs.LoneStepLemmas.{starter_head}
use Rattle.icu_element_reading.proofs.MappingHeadLemmas.{decided_none}
use Rattle.icu_element_reading.proofs.reader.lone_step.begins_apart.Goals as goal

pub returns-in-Some-clause-starter : goal.returns-in-Some-clause-starter
returns-in-Some-clause-starter c = λ is.
    let first : slice_get (still_unread c.args.text.now) 0 ≡ Some c.in-Some.d = search rules in
    starter_head (still_unread c.args.text.now) c.in-Some.d first (c.is_apart.ensures.starter is)

pub returns-in-Some-clause-decided : goal.returns-in-Some-clause-decided
returns-in-Some-clause-decided c = λ is.
    let first : slice_get (still_unread c.args.text.now) 0 ≡ Some c.in-Some.d = search rules in
    decided_none (found_context c.args.context) (still_unread c.args.text.now) c.in-Some.d first (c.is_apart.ensures.none is)
