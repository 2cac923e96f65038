use Rattle.std.proofs.Common.{sym, ◌∙◌}
use Rattle.icu_table_data.specs.StoredData.{found_context}
use Rattle.icu_element_matches.specs.Texts.{still_unread}
use Rattle.icu_element_reading.proofs.MappingHeadLemmas.{decided_none}
use Rattle.icu_element_reading.proofs.reader.lone_step.decided_mapping.Goals as goal

pub returns-then-none_begins_with-clause-mapping : goal.returns-then-none_begins_with-clause-mapping
returns-then-none_begins_with-clause-mapping c =
    decided_none (found_context c.args.context) (still_unread c.args.text.now) c.in_ok-d.d (sym c.first.ensures ∙ c.in_ok-d.was) (c.none_begins_with.ensures c.if-none_begins_with.true)
