use Rattle.icu_table_data.specs.StoredData.{found_context}
use Rattle.icu_element_cursor.proofs.UnjoinedLemmas.{apart_none}
use Rattle.icu_element_cursor.proofs.unjoined.begins_none.Goals as goal

pub returns-then-none_begins_with : goal.returns-then-none_begins_with
returns-then-none_begins_with c = λ is. apart_none (found_context c.args.context) c.args.d (c.none_begins_with.ensures is)
