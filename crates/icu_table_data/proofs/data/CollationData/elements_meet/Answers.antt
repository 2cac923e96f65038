use Rattle.icu_table_data.specs.Data.{homed}
use Rattle.icu_table_data.specs.Final.{final_elements}
use Rattle.icu_table_data.specs.StoredData.{data_of}
use Rattle.icu_table_data.proofs.ElementLemmas.{met_shapes, met_leads, met_primaries}
use Rattle.icu_table_data.proofs.data.CollationData.elements_meet.Goals as goal

pub returns-clause-shapes : goal.returns-clause-shapes
returns-clause-shapes c = met_shapes (final_elements (homed (data_of c.args.self) c.args.entry) c.args.c) _ c.in-Ok.ensures

pub returns-clause-leads : goal.returns-clause-leads
returns-clause-leads c = met_leads (final_elements (homed (data_of c.args.self) c.args.entry) c.args.c) _ c.in-Ok.ensures

pub returns-clause-primaries : goal.returns-clause-primaries
returns-clause-primaries c = met_primaries (final_elements (homed (data_of c.args.self) c.args.entry) c.args.c) _ c.in-Ok.ensures
