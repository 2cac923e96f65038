use Rattle.icu_table_data.specs.StoredData.{data_of}
use Rattle.icu_element_reading.proofs.ReadableLemmas.{well_formed_found}
use Rattle.icu_element_reading.proofs.element_tables.ElementTables.entry.Goals as goal

pub returns-clause-well_formed : goal.returns-clause-well_formed
returns-clause-well_formed c = well_formed_found c.args.self c.args.c c.ranges.c.0 (data_of c.found.result.home) c.found.result.ce32 c.found.ensures
