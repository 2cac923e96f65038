use Rattle.icu_table_check.proofs.small_tables.SmallTableLemmas.{small_tables_are_well_formed, same_tables_are_well_formed}
use Rattle.icu_table_check.proofs.small_tables.small_tables_are_well_formed.Goals as goal

pub returns-clause-well_formed : goal.returns-clause-well_formed
returns-clause-well_formed c = small_tables_are_well_formed

pub returns-clause-same : goal.returns-clause-same
returns-clause-same c = same_tables_are_well_formed
