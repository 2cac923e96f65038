use Rattle.icu_table_data.proofs.VisitedLemmas.{one_entry}
use Rattle.icu_table_data.proofs.visited_entries.VisitedEntries.remember.Goals as goal

pub returns-in_default : goal.returns-in_default
returns-in_default c = one_entry _ _ _ _ _ c.put.ensures
