use Rattle.icu_table_data.proofs.VisitedLemmas.{none_remembered}
use Rattle.icu_table_data.proofs.visited_entries.PlacedEntries.new.Goals as goal

pub returns : goal.returns
returns c = none_remembered 1024
