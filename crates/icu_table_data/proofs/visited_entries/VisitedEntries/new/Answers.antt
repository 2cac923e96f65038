use Rattle.icu_table_data.proofs.VisitedLemmas.{none_by}
use Rattle.icu_table_data.proofs.visited_entries.VisitedEntries.new.Goals as goal

pub returns : goal.returns
returns c = none_by _ _ _ c.new.ensures c.new-2.ensures c.new-3.ensures
