use Rattle.icu_table_data.proofs.VisitedLemmas.{none_marked}
use Rattle.icu_table_data.proofs.visited_entries.Marks.new.Goals as goal

pub returns : goal.returns
returns c = none_marked 8192
